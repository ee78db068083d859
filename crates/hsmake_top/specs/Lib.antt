pub mod Session
pub mod Stopped
pub mod Usage
pub mod Kept
pub mod Ahead
pub mod Turn
