pub mod Uses
pub mod Bits
