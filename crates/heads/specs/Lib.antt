pub mod Heads
pub mod Links
