pub mod Counter
pub mod Stretch
