-- The definitions that the contracts of this crate cite.
pub mod Refusals
pub mod Answers
pub mod Events
pub mod Computed
