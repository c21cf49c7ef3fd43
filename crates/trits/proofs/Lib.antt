-- Laws that no one function owns: the levels of samples, the search, trytes.
pub mod Levels
pub mod Searching
pub mod Trytes
