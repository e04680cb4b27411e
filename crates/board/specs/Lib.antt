pub mod Heard
pub mod Pistons
