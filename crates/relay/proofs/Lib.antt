pub mod Accepted
pub mod Levels
pub mod Ranges
pub mod Picks
pub mod Stand
pub mod Tellings
