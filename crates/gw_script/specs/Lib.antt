pub mod EventLists
pub mod Lines
pub mod FrameTexts
pub mod Gathering
pub mod LineParts
pub mod NamedPlaces
pub mod ReportTexts
pub mod SegmentLines
