-- Lists of steps; one turn of a run; what a run says of its list; records handed in as bytes.
pub mod ListLaws
pub mod RunLaws
pub mod RunMeans
pub mod HandedLaws
