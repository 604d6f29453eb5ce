pub mod Questions
pub mod Stages
pub mod Studies
pub mod Runs
pub mod SoundRuns
pub mod Cases
