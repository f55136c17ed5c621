pub mod DrillFile
pub mod Layout
pub mod Writer
pub mod Claims
