-- Tests by computation.
pub mod Cases
pub mod Panels
pub mod Printed
pub mod TileLists
