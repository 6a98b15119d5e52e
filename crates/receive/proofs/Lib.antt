-- The laws by which the proofs of this crate, and of those above it, go.
pub mod EndStatus
pub mod Leaving
pub mod Filling
pub mod Begins
pub mod Touching
pub mod One
