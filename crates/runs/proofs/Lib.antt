-- Laws of runs.
pub mod RunLaws
pub mod CheckLaws
pub mod OneByOne
