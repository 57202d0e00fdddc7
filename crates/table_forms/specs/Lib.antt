pub mod Operations
pub mod OperationLaws
pub mod DecisionTables
pub mod Totals
pub mod TotalLaws
pub mod Formed
pub mod FormedLaws
