pub mod Touched
