pub mod Limits
pub mod Plain
pub mod Rules
pub mod Sent
