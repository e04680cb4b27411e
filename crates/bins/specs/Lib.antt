pub mod Enter
pub mod Find
pub mod Head
pub mod Keep
pub mod Leave
