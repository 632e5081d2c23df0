-- What follows from the laws of conversions.
pub mod Calls
pub mod Alike
