pub mod Depends
pub mod Meets
pub mod Numbers
