pub mod Settled
pub mod Frozen
