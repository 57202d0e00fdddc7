pub mod SlotBlocks
pub mod SlotBlockLaws
pub mod SlotsBack
