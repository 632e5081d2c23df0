pub mod Printed
pub mod Counting
