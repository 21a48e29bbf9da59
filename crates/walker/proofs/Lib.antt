-- The laws of a walk's start.
pub mod Laws
