pub mod Fills
pub mod Filling
pub mod Tallies
pub mod Sure
pub mod Lists
pub mod Named
pub mod Turns
