pub mod Slots
pub mod SlotLaws
pub mod Fits
