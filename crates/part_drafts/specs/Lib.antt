pub mod Moment
pub mod DraftedAs
