pub mod Lasts
pub mod Levels
pub mod MoveBytes
pub mod Passed
pub mod Passing
pub mod Relaid
pub mod Stored
