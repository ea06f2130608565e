-- Laws of tests, sums, counts, sets, lists by their places and lists put into others.
pub mod TestLaws
pub mod SumLaws
pub mod CountLaws
pub mod LessLaws
pub mod SetLaws
pub mod SizeLaws
pub mod BitLaws
pub mod LowestLaws
pub mod PlacingLaws
pub mod RangeLaws
