pub mod Fronts
pub mod Changes
