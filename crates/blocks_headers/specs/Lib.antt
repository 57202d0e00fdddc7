pub mod HeaderFields
pub mod HeaderFieldLaws
