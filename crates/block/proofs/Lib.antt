-- The laws that the proofs of this crate cite, and its theorems.
pub mod Places
pub mod Opens
pub mod Back
pub mod One
