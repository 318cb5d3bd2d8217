pub mod Placed
pub mod Drafts
pub mod Planned
pub mod PlanWords
