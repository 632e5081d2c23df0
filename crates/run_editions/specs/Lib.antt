pub mod Conversions
pub mod Requests
pub mod Printed
