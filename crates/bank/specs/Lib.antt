pub mod Records
pub mod Calls
pub mod Asks
pub mod Recalls
pub mod Run
