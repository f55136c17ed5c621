pub mod VotingLaws
pub mod Invariance
pub mod TraceLaws
pub mod Theory
pub mod Instances
pub mod ExampleRuns
