pub mod Members
pub mod Shifts
pub mod Collected
pub mod Widths
pub mod Nth
pub mod Listed
