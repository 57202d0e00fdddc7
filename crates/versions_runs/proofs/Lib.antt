pub mod LentRecord
pub mod Lent
