pub mod Digits
pub mod Text
pub mod Examples
pub mod Parts
