-- What is proved of this crate's contracts.
pub mod One
