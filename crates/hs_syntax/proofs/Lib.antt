pub mod Names
pub mod Sound
pub mod Cut
