pub mod Reading
pub mod Compose
pub mod Recheck
pub mod Example
