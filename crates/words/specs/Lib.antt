pub mod Choice
pub mod Sums
pub mod Words
pub mod Parts
