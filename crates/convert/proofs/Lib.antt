pub mod Outcomes
pub mod BothWays
pub mod Converted
pub mod ThereAndBack
pub mod Refused
pub mod Determined
pub mod Case
