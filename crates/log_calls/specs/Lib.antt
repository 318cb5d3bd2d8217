pub mod Bytes
pub mod Texts
pub mod Vocabulary
