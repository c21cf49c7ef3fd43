-- What the functions of this crate know and answer, over the definitions of `format`.
pub mod Known
pub mod Held
pub mod Examined
pub mod FirstSays
pub mod SecondSays
pub mod Marking
pub mod Starting
pub mod Samples
pub mod Places
pub mod Ordering
