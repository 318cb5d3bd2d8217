pub mod Written
pub mod Lent
pub mod Parts
pub mod Canonical
