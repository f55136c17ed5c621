pub mod Stations
pub mod Rows
pub mod Claims
