-- What the contracts of `zone_kw` cite beside `meaning`, `plants` and `station_table`.
pub mod ByZone
pub mod Load
