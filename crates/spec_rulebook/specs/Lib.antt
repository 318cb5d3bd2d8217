pub mod Reading
pub mod Book
pub mod Carried
pub mod InTime
pub mod Recorded
