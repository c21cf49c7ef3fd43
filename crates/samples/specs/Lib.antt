pub mod Lent
pub mod Samples
pub mod Places
