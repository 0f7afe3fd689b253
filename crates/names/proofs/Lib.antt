pub mod NameLaws
pub mod ByteLaws
pub mod RowLaws
pub mod PlaceLaws
