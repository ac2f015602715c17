pub mod WordLaws
pub mod Judged
pub mod Seeking
pub mod Questions
pub mod Built
