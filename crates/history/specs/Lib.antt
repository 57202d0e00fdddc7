pub mod Databases
pub mod Followed
pub mod Kinds
pub mod SessionTurns
pub mod Demand
pub mod TwoVersions
