pub mod Cases
pub mod Figures
pub mod Worked
pub mod Blocks
pub mod Held
