pub mod Checked
pub mod Bytes
pub mod PartsKept
pub mod FormsKept
pub mod Shows
