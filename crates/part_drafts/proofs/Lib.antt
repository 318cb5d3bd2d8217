pub mod Moments
pub mod PlaceLaws
pub mod DraftLaws
