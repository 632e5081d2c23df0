pub mod Reasons
pub mod Answers
pub mod TileList
