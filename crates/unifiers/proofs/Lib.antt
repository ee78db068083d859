pub mod Laws
pub mod Names
pub mod Numbers
pub mod Reading
pub mod Renaming
pub mod Solving
