pub mod Determined
pub mod Records
pub mod Alike
