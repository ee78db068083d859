pub mod Example
pub mod Reading
pub mod Renaming
pub mod Solver
pub mod Term
pub mod Unifier
