pub mod Circuits
pub mod Net
pub mod Misses
pub mod Signed
