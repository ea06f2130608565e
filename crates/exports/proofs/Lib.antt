-- The laws of what C gets, and the promises about images as C has them.
pub mod ExportLaws
pub mod Theorems
