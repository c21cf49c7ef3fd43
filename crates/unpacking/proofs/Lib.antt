-- The laws of this crate's functions, by subject.
pub mod WordLaws
pub mod FillLaws
pub mod SizeLaws
pub mod StandLaws
pub mod RowLaws
pub mod OutcomeLaws
