pub mod Each
pub mod Layouts
pub mod Places
pub mod Words
pub mod Counted
pub mod Judging
pub mod Records
pub mod Held
