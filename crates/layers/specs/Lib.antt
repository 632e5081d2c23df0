pub mod Band
pub mod Push
pub mod Filter
