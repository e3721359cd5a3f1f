pub mod Records
pub mod Firsts
pub mod Refusals
pub mod Limits
pub mod Head
pub mod HeadLaw
pub mod Answer
