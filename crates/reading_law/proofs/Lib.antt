pub mod Stages
pub mod Walks
pub mod Follows
pub mod Example
