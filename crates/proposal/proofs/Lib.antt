pub mod Stages
pub mod Cases
pub mod Told
pub mod Sound
pub mod CaseOf
pub mod Opening
