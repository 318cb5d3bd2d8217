pub mod Steps
pub mod Chain
pub mod Right
