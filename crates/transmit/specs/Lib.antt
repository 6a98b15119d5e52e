-- The definitions that the contracts of this crate cite.
pub mod Report
pub mod Turn
pub mod Computed
