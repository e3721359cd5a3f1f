pub mod Certificate
pub mod Rules
pub mod Kept
pub mod Held
pub mod Ways
pub mod Past
pub mod Truth
pub mod Claims
