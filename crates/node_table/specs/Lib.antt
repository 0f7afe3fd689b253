-- What the contracts of `node_table` cite beside `meaning` and `layout`.
pub mod Columns
pub mod Told
