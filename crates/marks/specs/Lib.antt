pub mod Marks
pub mod MarkSets
