pub mod Gather
pub mod Grow
pub mod Places
pub mod Relax
pub mod Solution
