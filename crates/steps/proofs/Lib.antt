-- Laws of the moves, of their events and of what is told of them, of a kind taken, and of the step.
pub mod ReadLaws
pub mod MoveLaws
pub mod EventLaws
pub mod ToldLaws
pub mod TakeLaws
pub mod SettingLaws
pub mod StepLaws
