pub mod RollUp
pub mod RollUpBounds
pub mod RollUpLaws
pub mod RollUpOutcomes
