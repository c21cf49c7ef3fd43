pub mod SampleLaws
pub mod PlaceLaws
pub mod SlotLaws
