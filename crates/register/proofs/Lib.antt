pub mod DepartmentLaws
pub mod RegisterLaws
pub mod Claims
