pub mod Plan
pub mod Solo
pub mod Claims
