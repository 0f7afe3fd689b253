-- What the contracts of `bits` and `walk` cite: sets of numbers as bits of words.
pub mod Sets
pub mod Words
