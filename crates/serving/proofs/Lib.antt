pub mod Serves
pub mod TakeServes
pub mod AskServes
pub mod AskAllServes
pub mod BackServes
pub mod CountServes
