-- The laws that the functions on images cite.
pub mod SlotLaws
pub mod WalkLaws
pub mod ImageLaws
pub mod CountLaws
pub mod WriteLaws
pub mod ReadingLaws
