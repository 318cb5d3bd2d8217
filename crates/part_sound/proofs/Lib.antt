pub mod Flags
mod SentFirst
pub mod Soundness
pub mod InWords
pub mod Whole
