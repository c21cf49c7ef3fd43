-- What the functions of this crate answer and keep, over the definitions of `format`.
pub mod Sizes
pub mod Work
pub mod Walked
pub mod Stream
pub mod Packed
