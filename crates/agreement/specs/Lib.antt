pub mod Words
pub mod Demand
pub mod Consequences
pub mod GivenBack
pub mod ComeBack
pub mod Worked
