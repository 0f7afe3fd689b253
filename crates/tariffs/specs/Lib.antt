pub mod Pricing
pub mod Sides
pub mod Case
