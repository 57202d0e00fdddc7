pub mod LineSessions
pub mod Kept
pub mod Standing
pub mod LineSessionLaws
pub mod StandingLaws
pub mod TextLaws
