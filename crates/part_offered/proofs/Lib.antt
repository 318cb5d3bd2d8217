pub mod StepLaws
pub mod Sized
