pub mod Fronted
pub mod Listed
pub mod Counted
