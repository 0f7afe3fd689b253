pub mod Making
pub mod Numbers
pub mod Names
pub mod Lined
