-- Laws of bits and of sets of them.
pub mod Bits
pub mod Sets
