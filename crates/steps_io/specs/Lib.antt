pub mod Carried
pub mod CarriedLaws
pub mod Streams
pub mod StreamLaws
