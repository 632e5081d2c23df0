pub mod Cutting
pub mod Laws
pub mod Judging
pub mod Counting
