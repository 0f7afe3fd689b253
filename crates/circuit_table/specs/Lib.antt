-- What the contracts of `circuit_table` cite beside `meaning` and `layout`.
pub mod Lengths
pub mod Columns
pub mod Told
