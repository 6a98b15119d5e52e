-- The laws by which the proofs of this crate, and of those above it, go.
pub mod Finding
pub mod Loaded
pub mod Looking
pub mod One
