pub mod Behind
pub mod OwnRows
pub mod Told
