-- Laws of whole lists of words.
pub mod ListLaws
