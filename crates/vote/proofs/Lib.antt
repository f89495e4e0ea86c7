mod Leading
pub mod Voters
pub mod Quorum
