pub mod Networks
pub mod Sets
