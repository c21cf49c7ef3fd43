-- The laws of this crate's functions, by subject.
pub mod ScanLaws
pub mod NumberLaws
pub mod BitLaws
pub mod HeldLaws
pub mod RunLaws
pub mod TurnLaws
pub mod StreamLaws
pub mod CursorLaws
pub mod SectionLaws
pub mod PackLaws
pub mod ImageLaws
