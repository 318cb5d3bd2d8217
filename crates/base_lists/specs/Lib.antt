pub mod Loops
pub mod All
