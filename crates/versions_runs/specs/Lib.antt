pub mod Runs
pub mod RunLaws
