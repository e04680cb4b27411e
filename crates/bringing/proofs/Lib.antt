pub mod Outcomes
pub mod Refused
pub mod GoneBytes
pub mod BroughtIn
pub mod Determined
