-- The laws of this crate, by subject.
pub mod EntryLaws
pub mod KindLaws
pub mod MarkedLaws
pub mod BatchTurns
