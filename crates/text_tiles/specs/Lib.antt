pub mod Requests
pub mod Printed
