pub mod Replies
pub mod Written
pub mod Puts
pub mod WrittenLaws
pub mod ReadBack
pub mod OutputLaws
pub mod Texts
pub mod TextLaws
