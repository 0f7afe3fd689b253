pub mod OfCase
pub mod Settles
