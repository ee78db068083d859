pub mod Files
pub mod Plan
pub mod Positions
pub mod Tree
