pub mod Probed
pub mod Answers
pub mod AnswerLaws
