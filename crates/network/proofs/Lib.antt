pub mod Ratings
pub mod Rows
pub mod Numbered
pub mod Firsts
