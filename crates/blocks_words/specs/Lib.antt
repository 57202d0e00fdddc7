pub mod Words
pub mod Longs
pub mod Groups
pub mod WordLaws
pub mod Follows
pub mod FollowLaws
pub mod LongLaws
pub mod AlteredWord
