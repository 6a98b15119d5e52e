-- The laws by which the proofs of this crate, and of those above it, go.
pub mod Tests
pub mod One
