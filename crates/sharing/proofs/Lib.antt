-- the split of a distance, and of a zone's metres along its chain
pub mod Split
pub mod Adds
-- how large parts and sums get; a file that stands
pub mod Bounds
pub mod Stands
pub mod Centre
-- the kilowatts of the shared tariff
pub mod Loads
