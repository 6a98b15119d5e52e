-- What the statements over all say.
pub mod Cases
pub mod Soundly
pub mod Runs
pub mod Premise
pub mod Twice
