-- What the proofs of several functions use, in `Places` what a caller of `first_place` does, and in `Partners` what one of `partners_of` does.
pub mod Places
pub mod Partners
mod Tracking
mod Replacing
