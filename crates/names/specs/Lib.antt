-- What the contracts of `names` cite beside `meaning`.
pub mod Padded
pub mod Inside
pub mod Search
