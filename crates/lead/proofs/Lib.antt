pub mod Hearing
pub mod Ordered
pub mod Takes
