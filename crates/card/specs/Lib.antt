-- The definitions that the contracts of this crate cite, in the order of document 01.
pub mod State
pub mod Sound
pub mod Replies
pub mod Registers
pub mod Initialization
pub mod Acts
pub mod Arrival
pub mod Turning
pub mod Computed
