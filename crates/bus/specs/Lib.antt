-- The definitions that the contracts of this crate, and of all that touch memory, cite.
pub mod Bits
pub mod Words
pub mod Bus
pub mod Within
pub mod Secrecy
pub mod Computed
