-- Laws for walks by hand. Each file has one subject.
pub mod CountedLoops
pub mod Calls
pub mod Locals
pub mod Loans
pub mod RowsAndCells
