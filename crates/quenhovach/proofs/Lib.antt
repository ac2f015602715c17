pub mod Reports
pub mod TwoCalls
pub mod WrittenOnce
pub mod Looks
pub mod SheetWords
pub mod Finding
pub mod Arms
pub mod Details
