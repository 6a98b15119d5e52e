-- What the contracts within this crate and `transmit` ask of a chain that was read.
pub mod Bounds
pub mod Laid
