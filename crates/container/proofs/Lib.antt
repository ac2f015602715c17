-- The laws of the crate.
pub mod Reading
pub mod Copying
pub mod Items
pub mod Judging
pub mod Finding
pub mod FoundLaws
