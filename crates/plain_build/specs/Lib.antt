pub mod Done
pub mod NodeResults
pub mod Plain
pub mod Result
pub mod Soundness
pub mod Ordered
