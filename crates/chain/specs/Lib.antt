pub mod Chain
pub mod Files
