pub mod Runs
pub mod RanOver
