-- The definitions that the contracts of this crate cite.
pub mod Fcs
pub mod Steps
pub mod Waiting
pub mod Computed
