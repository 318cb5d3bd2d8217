pub mod Differences
pub mod Answers
pub mod Equal
pub mod Witnesses
pub mod Entries
