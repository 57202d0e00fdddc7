pub mod LoadedSlots
pub mod AllowedLaws
pub mod LoadedLaws
