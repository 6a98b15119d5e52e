-- The definitions that the contracts of this crate cite, in the order of document 01; Inner has those that no other crate needs.
pub mod Status
pub mod Walk
pub mod Inner
pub mod Computed
