pub mod Machine
pub mod Asks
pub mod Rules
pub mod Runs
