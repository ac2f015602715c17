-- What the proofs of several functions use.
pub mod Numbers
pub mod Reading
pub mod Writing
