-- What the contracts of `tables` cite beside `meaning`, `layout`, `totals`, `walk` and the three tables' crates.
pub mod Order
pub mod Opens
pub mod Reads
