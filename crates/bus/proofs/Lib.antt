-- The laws about bytes, bus programs, and contracts that leave one answer.
pub mod Bytes
pub mod Run
pub mod Within
pub mod Secret
pub mod Only
pub mod One
