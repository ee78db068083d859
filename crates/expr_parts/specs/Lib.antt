pub mod Grammar
pub mod Expressions
pub mod Whole
