pub mod Answers
pub mod Laid
pub mod RowLaws
pub mod RowByRow
