-- What the functions on rows require, beside the definitions of `machine`.
pub mod Bounds
pub mod Masks
pub mod Passes
pub mod Pushing
