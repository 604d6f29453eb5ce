pub mod Retold
pub mod JointNet
pub mod Layers
