pub mod Counted
pub mod Pairs
pub mod Place
pub mod Value
