pub mod ChartLaws
pub mod Shown
