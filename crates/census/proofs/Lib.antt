-- Laws of the census.
pub mod TestLaws
pub mod ThresholdLaws
pub mod SeriesLaws
pub mod CensusLaws
