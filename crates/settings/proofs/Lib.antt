pub mod Steps
pub mod Heads
pub mod HeadLaws
