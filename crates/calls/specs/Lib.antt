pub mod Refusals
pub mod Rows
pub mod Terms
pub mod Calls
pub mod Numbers
pub mod Perform
