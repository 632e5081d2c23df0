pub mod Retold
pub mod ListRules
