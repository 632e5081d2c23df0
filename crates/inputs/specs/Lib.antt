pub mod Draws
pub mod Inputs
