pub mod Build
pub mod Laws
pub mod Machine
pub mod Judging
pub mod Example
