pub mod Adding
pub mod Asked
pub mod Ends
pub mod Instances
pub mod Lookups
pub mod Rows
pub mod Sorting
