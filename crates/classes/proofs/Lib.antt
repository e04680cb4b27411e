pub mod Table
pub mod Sizes
pub mod Class
pub mod TopBits
