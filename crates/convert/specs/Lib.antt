pub mod Converting
pub mod Reserved
