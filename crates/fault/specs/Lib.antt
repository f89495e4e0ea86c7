pub mod Reasons
pub mod Checks
