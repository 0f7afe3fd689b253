pub mod NodeLaws
pub mod ColumnLaws
