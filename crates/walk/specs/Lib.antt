pub mod Blocks
pub mod Classes
pub mod LookUp
pub mod Steps
pub mod Tallies
