pub mod Record
pub mod RecordLaws
pub mod Sessions
pub mod SessionLaws
