pub mod Places
pub mod Lines
pub mod Thin
pub mod InsertLaws
pub mod WordLaws
pub mod ReadyLaws
pub mod PutIn
