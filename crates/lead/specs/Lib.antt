pub mod Leading
pub mod Runs
