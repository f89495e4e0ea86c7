pub mod Numbers
pub mod Puts
pub mod Outer
pub mod Voters
