pub mod TableLaws
pub mod NetEffect
