pub mod Bools
pub mod Step
pub mod Theorem
pub mod Thirteen
