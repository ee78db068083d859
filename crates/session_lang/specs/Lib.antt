pub mod Front
pub mod Spelling
pub mod Numbers
pub mod Meant
pub mod Script
