pub mod Classes
pub mod Kinds
pub mod Order
pub mod Paths
pub mod Places
pub mod Texts
pub mod Types
pub mod formers
