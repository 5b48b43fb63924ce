pub mod Reply
pub mod Rows
pub mod Accepting
pub mod Parts
pub mod Examples
