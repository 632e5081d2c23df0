pub mod Reading
pub mod Passing
pub mod Row
pub mod Call
pub mod Lent
