pub mod Fitting
pub mod Names
pub mod Places
pub mod Tables
