pub mod Whole
pub mod Rules
pub mod Points
