pub mod Parts
pub mod First
pub mod Details
pub mod Files
