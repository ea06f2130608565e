pub mod Splitting
pub mod Opening
