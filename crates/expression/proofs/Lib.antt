-- What the proofs of several functions use.
pub mod Signed
pub mod Parts
pub mod Digits
pub mod Scan
pub mod Chains
