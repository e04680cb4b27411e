pub mod First
pub mod Steps
pub mod Going
pub mod Leaves
pub mod Determined
pub mod States
pub mod WorkedTape
pub mod Alike
