-- What the functions of this crate write, over the definitions of `format`.
pub mod Wrote
pub mod Neighbours
