pub mod Turns
pub mod RollBack
pub mod RollBackLaws
