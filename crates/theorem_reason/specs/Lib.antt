pub mod Reasons
pub mod Explained
pub mod Lists
