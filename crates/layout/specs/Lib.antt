-- What the contracts of `layout` cite beside `meaning`.
pub mod Readable
pub mod Frame
