pub mod Fair
pub mod Painters
pub mod Canvases
