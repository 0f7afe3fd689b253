pub mod Mapped
pub mod Laws
pub mod SharedLaws
pub mod CaseLaws
