pub mod Counts
pub mod Rows
pub mod Parts
pub mod Recordings
pub mod Listed
