pub mod Numerals
pub mod NumeralLaws
pub mod Commands
pub mod NumberLaws
pub mod CommandLaws
pub mod Longest
pub mod LongLineLaws
