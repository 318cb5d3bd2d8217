pub mod Overlaid
pub mod Added
pub mod Grown
pub mod GapTable
pub mod Dropped
