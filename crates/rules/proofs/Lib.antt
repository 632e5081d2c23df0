-- Tests by computation: cases.
pub mod Computing
pub mod Same
pub mod Picture
pub mod Cases
pub mod Judged
pub mod Shapes
pub mod Widths
pub mod Panels
-- What other crates cite.
pub mod All
pub mod Follows
pub mod laws
