pub mod Encodings
pub mod OutcomeLaws
pub mod Claims
