pub mod Tested
pub mod Readings
pub mod Reasons
pub mod Asked
