pub mod Kind
pub mod Containment
pub mod Network
pub mod Facts
pub mod Wires
