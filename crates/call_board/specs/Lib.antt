pub mod Ruled
pub mod Boards
pub mod Calls
pub mod InWords
