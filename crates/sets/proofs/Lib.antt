-- Laws of the answers.
pub mod LowestLaws
