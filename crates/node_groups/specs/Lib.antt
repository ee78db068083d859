pub mod Marks
pub mod Parted
pub mod Rising
pub mod Least
pub mod Order
pub mod Queue
pub mod Groups
pub mod Steps
