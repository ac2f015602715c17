pub mod Digits
pub mod Fronts
pub mod Questions
pub mod Fractions
pub mod Readings
pub mod EntryLaws
pub mod SheetLaws
pub mod Expanding
