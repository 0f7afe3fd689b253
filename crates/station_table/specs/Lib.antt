-- What the contracts of `station_table` cite beside `meaning` and `layout`.
pub mod Columns
pub mod Tec
pub mod Told
