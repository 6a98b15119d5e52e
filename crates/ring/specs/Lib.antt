-- The definitions that the contracts of this crate cite, in the order of document 01.
pub mod Slots
pub mod Loading
pub mod Status
pub mod Descriptor
pub mod Places
pub mod Computed
