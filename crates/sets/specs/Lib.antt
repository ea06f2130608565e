-- What the functions on sets answer and require, beside the definitions of `counting`.
pub mod Answers
pub mod Bounds
