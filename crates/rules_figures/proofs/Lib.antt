mod Tallies
pub mod Screens
mod Narrow
mod Ended
mod Asked
mod Counted
mod Newer
mod Tiled
pub mod Totals
pub mod Read
mod Roomed
mod Small
pub mod Files
