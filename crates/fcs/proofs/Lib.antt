-- The laws that the proofs of this crate cite, and what is proved of its contracts.
pub mod Xor
pub mod Shifts
pub mod Entries
pub mod Chunks
pub mod Registers
pub mod Frames
pub mod Folds
pub mod Afters
pub mod Places
pub mod Long
pub mod One
