pub mod Branches
pub mod Rows
pub mod Doors
pub mod Ended
pub mod Accepted
pub mod Answers
