pub mod WordRange
