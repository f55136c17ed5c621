pub mod Play
pub mod Claims
