pub mod Choosing
pub mod Remainder
