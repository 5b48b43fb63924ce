pub mod Expression
pub mod Action
pub mod Step
pub mod Budget
pub mod Replay
pub mod Examples
pub mod Parts
