-- The definitions that the contracts of this crate, and of those above it, cite, in the order of document 01; Inner has those that
-- state nothing of it.
pub mod Status
pub mod Start
pub mod Chain
pub mod Inner
pub mod Computed
