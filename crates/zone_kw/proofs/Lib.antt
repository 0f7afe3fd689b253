pub mod ZoneLaws
pub mod LoadLaws
pub mod OfGrid
