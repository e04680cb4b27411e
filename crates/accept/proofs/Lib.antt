pub mod MarkLists
pub mod Awaited
pub mod Above
pub mod Scanning
pub mod Chains
pub mod Passing
pub mod Tested
pub mod Accept
pub mod Build
pub mod Simulation
pub mod Exact
mod Tried
