-- What the contracts of `plants` cite beside `meaning`.
pub mod Kind
pub mod Counted
pub mod Running
