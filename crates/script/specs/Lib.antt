pub mod Block
pub mod Parts
pub mod Numbers
pub mod Lines
pub mod Scripts
pub mod Account
