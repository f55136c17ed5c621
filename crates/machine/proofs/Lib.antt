-- In layers: the laws of requests as the machine sees them; what a machine shows of its history; each step as a step of crate `protocol`; runs
-- and safety; consensus.
pub mod Asks
pub mod Shows
pub mod Steps
pub mod Runs
pub mod Consensus
