pub mod Pop
pub mod Closing
pub mod Named
