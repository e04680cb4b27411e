pub mod Serve
pub mod Called
pub mod Step
pub mod Run
pub mod Alike
