-- The definitions of the engine, to be read in this order beside MANUAL, which is docs/MANUAL.md here and in every
-- file; the paper is the one that is named there.
pub mod Refusals
pub mod Rows
pub mod Tables
pub mod Words
pub mod Shared
pub mod Steps
pub mod Settings
pub mod Local
pub mod System
pub mod Census
pub mod Runs
pub mod Rounds
pub mod Images
pub mod Bytes
pub mod Inputs
pub mod Calls
pub mod Text
pub mod Exports
