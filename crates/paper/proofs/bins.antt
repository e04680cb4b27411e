pub mod Bins
pub mod BinLaws
pub mod Seek
pub mod Smallest
pub mod Distances
pub mod Listed
pub mod Members
