pub mod TwoValues
pub mod Extremes
