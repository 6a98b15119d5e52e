-- Laws of CSR0 and of the written registers, and what is proved of this crate's contracts.
pub mod Still
pub mod Bits
pub mod Csr0s
pub mod Tables
pub mod One
