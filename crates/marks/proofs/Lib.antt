pub mod PartLaws
pub mod MarkLaws
pub mod FirstLaws
pub mod BitLaws
