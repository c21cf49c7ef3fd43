-- The laws of this crate's functions, by subject.
pub mod TextLaws
pub mod LineLaws
pub mod TableLaws
