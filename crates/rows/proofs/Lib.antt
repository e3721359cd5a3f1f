pub mod Walks
pub mod Codes
pub mod Fields
