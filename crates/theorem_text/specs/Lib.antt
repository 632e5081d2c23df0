pub mod Waits
pub mod Printed
