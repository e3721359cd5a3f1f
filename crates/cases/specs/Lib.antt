pub mod Hex
pub mod Entry
pub mod Cases
pub mod Trial
pub mod Trials
pub mod Premises
