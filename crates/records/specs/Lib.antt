pub mod Records
pub mod Turned
