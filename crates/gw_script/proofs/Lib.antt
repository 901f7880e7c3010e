pub mod Ascii
pub mod Decimal
pub mod Gathering
pub mod Hexadecimal
pub mod LineLaws
pub mod NameLengths
pub mod Ready
pub mod Tables
