-- What the program compares.
pub mod Answers
