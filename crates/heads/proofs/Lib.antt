pub mod HeadLaws
pub mod LinkLaws
