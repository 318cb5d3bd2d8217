pub mod Clocked
