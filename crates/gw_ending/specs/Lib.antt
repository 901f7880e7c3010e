pub mod Ports
pub mod Headline
pub mod Links
pub mod Ends
pub mod Finals
pub mod Reports
