mod OnLiterals
mod Worked
mod WorkedMessages
mod WorkedFilters
mod VersionLaws
pub mod Lists
pub mod FilterLaws
pub mod MessageLaws
pub mod NameLaws
pub mod NodeLaws
pub mod WhereLaws
pub mod SoundLaws
pub mod SoundNodes
pub mod SoundFaults
