pub mod Commands
pub mod Outcomes
pub mod Claims
