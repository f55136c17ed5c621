pub mod Shifts
pub mod StandingTests
pub mod Standings
pub mod Past
pub mod RequestLaws
pub mod Claims
