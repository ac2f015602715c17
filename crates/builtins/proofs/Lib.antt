-- What the proofs of several functions use.
pub mod Arms
pub mod Naming
pub mod BuiltinLaws
