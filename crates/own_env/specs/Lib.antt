pub mod Own
pub mod Queries
