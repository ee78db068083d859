pub mod Classes
pub mod Exports
pub mod Insts
pub mod Spelled
pub mod Table
pub mod Types
