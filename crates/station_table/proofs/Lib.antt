pub mod ColumnLaws
pub mod ColumnAt
pub mod TecLaws
pub mod StationLaws
