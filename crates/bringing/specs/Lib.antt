pub mod BringingIn
