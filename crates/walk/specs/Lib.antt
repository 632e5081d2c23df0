pub mod Reading
pub mod Steps
pub mod Ready
pub mod Recorded
