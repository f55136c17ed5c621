pub mod Requests
pub mod Claims
