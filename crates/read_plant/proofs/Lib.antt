pub mod Head
pub mod SomeBad
pub mod Records
pub mod Reading
pub mod Good
pub mod Ranges
