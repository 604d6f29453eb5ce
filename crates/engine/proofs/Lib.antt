pub mod Steps
pub mod CutTests
pub mod Later
pub mod SoundRuns
pub mod Runs
pub mod Carried
