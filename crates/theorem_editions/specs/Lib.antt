-- The conversions' calls; the calls that take a file.
pub mod Conversions
pub mod Recordings
