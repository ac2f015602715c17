pub mod Places
pub mod Borders
pub mod Partners
