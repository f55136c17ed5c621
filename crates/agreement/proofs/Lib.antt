-- In layers, each resting on those before it: the floors that a list reaches, in each department a run of the machine (crates `machine` and
-- `panel`); the run by positions; safety; what departments have begun, which boxes are away, which stations are idle; rows given back;
-- boxes that come back; a station driven alone; demand 3; lists worked through.
pub mod Reach
pub mod Positions
pub mod Safety
pub mod Shares
pub mod Boxes
pub mod Stations
pub mod Over
pub mod FreeRows
pub mod GivenBack
pub mod Idle
pub mod Consequences
pub mod ComeBack
pub mod Alone
pub mod Demand
pub mod Reuse
pub mod Worked
