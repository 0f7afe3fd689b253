-- What the proofs of `wirepulley` share.
pub mod Telling
