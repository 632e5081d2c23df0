pub mod Sound
pub mod Lent
