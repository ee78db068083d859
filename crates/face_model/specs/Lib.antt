pub mod Environments
pub mod Exports
pub mod Formed
