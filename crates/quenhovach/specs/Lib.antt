pub mod Agreed
pub mod Reported
pub mod Looked
pub mod Sheets
