-- What the functions on images promise, and what those inside the crate require of each other.
pub mod Kinds
pub mod Answers
pub mod Inner
pub mod RowWords
pub mod Opened
