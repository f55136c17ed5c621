pub mod AnswerLaws
pub mod RowDepartments
pub mod Past
pub mod StationTests
pub mod UsedLaws
pub mod WaitingLaws
pub mod Claims
