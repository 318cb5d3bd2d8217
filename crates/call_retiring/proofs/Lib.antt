pub mod Ended
pub mod Retired
