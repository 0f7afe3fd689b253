pub mod FileLaws
pub mod Rows
