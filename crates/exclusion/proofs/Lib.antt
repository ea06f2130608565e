-- Theorems.antt and WholeTheorems.antt say what is proved; the others prove it, each from those above it.
pub mod Reaching
pub mod Bounded
pub mod Effects
pub mod Invariant
pub mod RowClauses
pub mod BoundClause
pub mod Fresh
pub mod Exclusion
pub mod Theorems
pub mod WholeTheorems
pub mod Controls
