pub mod Ceilings
pub mod Fits
pub mod Join
pub mod Meets
pub mod Press
pub mod Settle
pub mod Slots
pub mod Undo
