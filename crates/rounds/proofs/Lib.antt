-- Laws of rounds in the code, and the bound on the silence beside it.
pub mod WordLaws
pub mod MoveLaws
pub mod RoundLaws
pub mod Theorems
