-- Laws of inputs.
pub mod SplitLaws
pub mod OpeningLaws
