pub mod Reading
pub mod Wire
