-- The laws of the definitions, for this crate's code and for other crates to cite.

-- tools: lists, rank; digits; select; places, permutations; a list written over a buffer; the exit of a `?`
pub mod Laws
pub mod FaultLaws
pub mod Digits
pub mod Select
pub mod Places
pub mod Over
pub mod Handed
-- table and walk: reading words; the walk, its order, what it reaches; the graph that trits and shadows give back; the rules by one scan
pub mod Reading
pub mod TableFaults
pub mod Cutting
pub mod Walks
pub mod Order
pub mod Reached
pub mod Trip
pub mod Scans
pub mod Rules
-- image: lengths; the checker, whole and step by step; reading entries; marks and groups; trytes
pub mod Sizes
pub mod CheckLaws
pub mod Steps
pub mod ImageReads
pub mod Marks
pub mod UsesIndexed
pub mod Rising
pub mod Tryte
-- edges and questions
pub mod EdgeLaws
pub mod ProperLaws
pub mod Sums
pub mod Facts
pub mod Lookups
pub mod OnImage
pub mod Neighbours
pub mod BatchLaws
-- accepted tables and proper images; outcomes; enums and numbers; what a `?` hands on
pub mod Accepting
pub mod Outcomes
pub mod Replies
pub mod Ranges
pub mod Widths
pub mod Listed
pub mod ListingLaws
pub mod OneToOne
pub mod Answered
pub mod Determined
pub mod TableAnswers
pub mod Promises
-- what it all comes to
pub mod Demands
pub mod Cases
