-- Laws of the step on lent rows, and demand 3 of it.
pub mod AnswerLaws
pub mod MovingLaws
pub mod Theorems
