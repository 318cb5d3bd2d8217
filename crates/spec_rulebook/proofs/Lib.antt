pub mod InTime
pub mod Kept
pub mod Outcome
pub mod Reading
pub mod Recorded
pub mod Unique
