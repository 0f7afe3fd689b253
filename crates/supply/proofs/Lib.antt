pub mod Shares
pub mod Bounds
