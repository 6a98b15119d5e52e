-- The laws that the proofs of this crate cite, and what is proved of its contracts.
pub mod Alike
pub mod One
