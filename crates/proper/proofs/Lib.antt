-- The laws of this crate's functions, by subject.
pub mod OpenLaws
pub mod GivenLaws
pub mod FirstLaws
pub mod HeldLaws
pub mod SecondLaws
pub mod ShadowLaws
pub mod MapLaws
pub mod OnesLaws
pub mod StartLaws
pub mod PairLaws
pub mod TwoLaws
pub mod KeyLaws
pub mod IndexLaws
pub mod OrderLaws
pub mod PassedLaws
pub mod OneAnswer
