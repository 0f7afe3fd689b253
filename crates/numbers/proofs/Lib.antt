pub mod Limit
pub mod Equal
pub mod Found
pub mod Range
pub mod Directions
pub mod Doubt
pub mod Counts
