pub mod Clearing
pub mod StoredSheet
pub mod LaidOut
