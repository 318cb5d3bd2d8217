pub mod Thinned
pub mod Beside
