pub mod Build
pub mod Rewritten
pub mod AllBelow
pub mod All
pub mod Parts
pub mod Iterators
