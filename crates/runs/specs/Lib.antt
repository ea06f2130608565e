pub mod Outcomes
pub mod Bounds
