pub mod Class
pub mod Sizes
