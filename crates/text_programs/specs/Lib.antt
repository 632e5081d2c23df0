pub mod Arguments
pub mod Streams
pub mod Failures
pub mod Rooms
pub mod Usages
pub mod Abouts
