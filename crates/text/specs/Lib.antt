pub mod Writing
pub mod Room
pub mod SheetText
pub mod Refusing
