pub mod Floors
pub mod Words
pub mod Scales
pub mod Wires
pub mod Chains
