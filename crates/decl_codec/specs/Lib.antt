pub mod Answers
pub mod Blobs
pub mod Exports
pub mod Going
pub mod Names
pub mod Reading
pub mod Writing
