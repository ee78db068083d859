pub mod Offered
pub mod Ordered
pub mod Scope
pub mod Table
