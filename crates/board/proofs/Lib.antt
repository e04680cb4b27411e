pub mod Told
pub mod Seven
pub mod Determined
