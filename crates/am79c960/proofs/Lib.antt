-- The laws by which the proofs of this crate go, and that its contracts leave one answer.
pub mod Entering
pub mod One
