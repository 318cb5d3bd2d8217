pub mod Regression
pub mod Forward
