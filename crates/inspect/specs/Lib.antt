pub mod Inspection
pub mod Contract
