pub mod Answers
pub mod Examples
pub mod Hmac
pub mod Padding
pub mod Sha256
