pub mod Alls
pub mod Bounds
pub mod Lexing
pub mod Weights
pub mod Sound
pub mod Fitting
pub mod Ordered
pub mod Checking
