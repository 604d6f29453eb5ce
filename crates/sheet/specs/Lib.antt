pub mod Descriptions
pub mod Sheets
pub mod Shown
pub mod Reading
pub mod Answers
