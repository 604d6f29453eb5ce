pub mod Bounds
pub mod CutOff
pub mod Bracket
pub mod Largest
pub mod Rows
