pub mod Rowdump
pub mod Dumped
