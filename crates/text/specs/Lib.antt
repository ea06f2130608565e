pub mod Laws
pub mod Pages
pub mod PageLaws
pub mod Fields
pub mod Lines
pub mod Running
pub mod Counts
pub mod Printing
