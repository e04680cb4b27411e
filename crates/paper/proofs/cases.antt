pub mod Starred
pub mod WorkedTape
pub mod Pools
pub mod PoolsWritten
pub mod Home
