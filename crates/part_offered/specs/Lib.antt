pub mod Offered
pub mod Sized
