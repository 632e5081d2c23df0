pub mod Questions
pub mod Told
