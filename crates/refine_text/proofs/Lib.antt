pub mod Lengths
pub mod Printed
pub mod Walked
pub mod Files
