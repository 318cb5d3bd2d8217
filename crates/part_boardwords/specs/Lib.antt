pub mod Layout
pub mod Board
pub mod Words
pub mod Codec
