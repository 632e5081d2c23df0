pub mod Long
pub mod Counted
