pub mod LengthLaws
pub mod ColumnLaws
pub mod CircuitLaws
