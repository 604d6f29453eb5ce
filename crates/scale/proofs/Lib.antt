pub mod NineSteps
pub mod NineOps
