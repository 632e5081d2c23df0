pub mod Lent
pub mod Left
