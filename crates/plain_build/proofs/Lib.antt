pub mod Order
pub mod Needs
pub mod Env
pub mod Next
pub mod Exits
pub mod Trees
pub mod Ordered
pub mod Chained
