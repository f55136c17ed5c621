-- Two floors that are alike for a department, then the steps of it alone.
pub mod Alike
pub mod Deletion
