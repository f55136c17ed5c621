pub mod Claims
pub mod Instances
pub mod Invariant
pub mod Trace
pub mod View
pub mod Voting
