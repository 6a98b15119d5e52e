-- What only the contracts within this crate cite.
pub mod Ends
pub mod Step
