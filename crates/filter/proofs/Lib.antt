-- What is proved of this crate's contracts, and the laws that the proofs cite.
pub mod Alike
pub mod One
