-- Laws of the walk.
pub mod Following
pub mod Walking
