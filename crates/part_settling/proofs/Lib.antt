pub mod Adding
pub mod Frozen
