-- What the functions of this crate answer each other, over the definitions of `format`.
pub mod Bounds
pub mod Nodes
pub mod Kinds
pub mod BatchSteps
