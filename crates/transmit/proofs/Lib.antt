-- The laws by which the proofs of this crate, and of those above it, go.
pub mod Frames
pub mod Releasing
pub mod Turns
pub mod Touching
pub mod One
