pub mod Names
pub mod Sizing
