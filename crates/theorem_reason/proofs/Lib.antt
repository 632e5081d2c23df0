pub mod Places
pub mod Reasons
pub mod Panels
pub mod Painted
pub mod Explained
pub mod Frames
pub mod Counted
pub mod Lists
