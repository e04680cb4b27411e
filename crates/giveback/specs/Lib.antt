pub mod GiveBack
pub mod Large
pub mod Small
