pub mod Using
pub mod MarksRead
pub mod EachOnce
pub mod UsedUp
pub mod AllHeldRead
