-- The laws by which the proofs of this crate, and of those above it, go.
pub mod Answering
pub mod Initializing
pub mod Sounding
pub mod One
