pub mod LineNumbers
pub mod Settings
pub mod Spelled
pub mod Words
