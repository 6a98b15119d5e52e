-- The definitions that the contracts of this crate cite.
pub mod Bits
pub mod Csr0
pub mod Writing
pub mod Table
pub mod Computed
