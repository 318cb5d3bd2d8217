pub mod Padded
pub mod ArrayLists
pub mod Asked
pub mod Placing
