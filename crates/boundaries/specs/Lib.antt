pub mod Boundaries
-- on the way there
pub mod Parts
