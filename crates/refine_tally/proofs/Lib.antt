pub mod Rows
pub mod Screens
pub mod Recorded
pub mod Enough
