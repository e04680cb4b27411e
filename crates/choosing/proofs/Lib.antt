pub mod RestRead
pub mod ChoiceRead
