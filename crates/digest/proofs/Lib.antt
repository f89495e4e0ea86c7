pub mod Blocks
pub mod Masks
pub mod Rounds
