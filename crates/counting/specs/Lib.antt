-- What a sum, a count, a set of process numbers, a list by its places and a list put into another are.
pub mod Sums
pub mod Sets
pub mod Ranges
pub mod Placing
