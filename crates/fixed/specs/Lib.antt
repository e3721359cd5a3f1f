pub mod Format
pub mod Floor
pub mod Word
pub mod Wire
pub mod Bytes
pub mod Steps
