pub mod Register
pub mod Claims
