pub mod Rows
pub mod Call
pub mod Whole
pub mod Lent
