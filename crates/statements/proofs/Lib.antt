-- The statements and their proofs.
pub mod Twelve
pub mod States
pub mod Writing
pub mod Acts
pub mod Running
pub mod Secrecy
