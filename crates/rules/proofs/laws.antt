-- Laws of the rules that other crates cite.
pub mod Answers
pub mod Changes
pub mod Maps
pub mod Bounds
pub mod Pixmaps
pub mod Viewports
pub mod Snapping
pub mod Widths
pub mod Minima
