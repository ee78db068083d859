pub mod Grammar
pub mod Readers
pub mod Names
pub mod Extensions
pub mod Stages
pub mod Reading
pub mod Gathering
