pub mod Messages
pub mod Reader
pub mod Writer
pub mod Claims
