pub mod Compared
pub mod Witness
