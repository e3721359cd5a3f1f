pub mod Call
pub mod Written
pub mod Certified
pub mod Texts
