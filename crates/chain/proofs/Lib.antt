-- The laws by which the proofs of this crate, and of those above it, go.
pub mod Passing
pub mod Chains
pub mod Reaching
pub mod Touching
pub mod Since
pub mod One
