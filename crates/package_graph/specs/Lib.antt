pub mod Packages
pub mod Targets
pub mod Tables
pub mod Environments
