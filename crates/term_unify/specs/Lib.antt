pub mod Added
pub mod Arena
pub mod Read
pub mod Walk
