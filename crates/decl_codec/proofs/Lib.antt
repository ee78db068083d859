pub mod Blobs
pub mod Gone
pub mod Layers
pub mod Loops
pub mod Names
pub mod Places
pub mod Trees
pub mod Ways
