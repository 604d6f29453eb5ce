pub mod Ratings
pub mod Meaning
pub mod Questions
pub mod Legality
pub mod Refusing
