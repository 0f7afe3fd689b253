-- What the contracts of `walk` cite beside `meaning` and `bits`.
pub mod Walk
