-- The meaning of document 01: a file for each of its paragraphs; Lists and Faults, which they are written with; Answers, the numbers of the enums;
-- Renumbering, what the demands say of two tables.
pub mod Lists
pub mod Faults
pub mod Table
pub mod Level
pub mod Trits
pub mod Image
pub mod Packing
pub mod Proper
pub mod Edges
pub mod Unpack
pub mod Question
pub mod Batch
pub mod Listing
pub mod Answers
pub mod Renumbering
