pub mod AtEdge
pub mod Decide
pub mod Whole
