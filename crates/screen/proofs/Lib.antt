pub mod ScreenLaws
pub mod Judged
pub mod Resets
pub mod Passed
pub mod LayersLaws
pub mod Zeros
pub mod Blanks
pub mod Copies
