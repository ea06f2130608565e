-- The laws of images. Assumes nothing.
pub mod Packing
pub mod Slots
pub mod WordChecks
pub mod Locations
pub mod Fields
pub mod RowWords
pub mod Headers
pub mod Reading
pub mod RoundTrip
pub mod Theorems
pub mod InputTheorems
