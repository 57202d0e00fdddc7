pub mod Free
pub mod FreeSearch
pub mod FreeLaws
