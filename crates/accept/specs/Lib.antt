pub mod Inspect
