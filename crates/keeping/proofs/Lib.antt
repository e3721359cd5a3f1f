pub mod Loops
pub mod Picks
