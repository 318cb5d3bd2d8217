pub mod Counted
pub mod Decimal
pub mod Found
pub mod Hex
pub mod Written
