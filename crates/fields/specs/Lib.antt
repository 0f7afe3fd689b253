-- What the contracts of `fields` cite beside `meaning`.
pub mod Field
