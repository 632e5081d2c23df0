-- Sections as words; a file's sections in another edition; what the calls give; what conversions keep.
pub mod Written
pub mod Sections
pub mod Placed
pub mod Theorems
