pub mod Cells
pub mod Coding
pub mod Stepping
pub mod Running
pub mod Selecting
pub mod Replaying
pub mod Machines
