pub mod Granted
pub mod Large
pub mod Small
pub mod Take
