pub mod Laws
pub mod OfOpened
