pub mod Page
pub mod Numeral
pub mod Lent
