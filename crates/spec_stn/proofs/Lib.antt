pub mod Fits
pub mod Add
pub mod Grow
pub mod Pick
pub mod Agree
