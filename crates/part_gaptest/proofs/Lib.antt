pub mod Test
pub mod Ways
