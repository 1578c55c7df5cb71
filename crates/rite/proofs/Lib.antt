pub mod Fits
pub mod Join
pub mod Whole
