pub mod Bytes
pub mod Keywords
pub mod Marks
pub mod Numbers
pub mod Places
pub mod Tokens
