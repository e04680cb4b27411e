pub mod Runs
pub mod Contract
