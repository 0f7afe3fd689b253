-- the tutorial's four nodes, as tables and files
pub mod Cases
-- the tutorial's question, answered by request 12
pub mod Exercise
-- and nothing less than what it asks will do
pub mod Needed
-- the tutorial's two backgrounds, by request 5: which one a circuit counts for, and that a closure can change it
pub mod Backgrounds
-- 02, request 6: the same case with a share file
pub mod Sharing
