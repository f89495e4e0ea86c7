pub mod Bytewise
pub mod Sequences
pub mod Writing
