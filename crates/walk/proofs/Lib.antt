pub mod Along
pub mod Looking
pub mod BlocksRead
pub mod LookUpRead
pub mod RunSums
pub mod FiguresRead
pub mod ClassesRead
