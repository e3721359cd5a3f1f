pub mod Decimals
pub mod Account
