pub mod Row
pub mod WorkedRuns
pub mod Table
