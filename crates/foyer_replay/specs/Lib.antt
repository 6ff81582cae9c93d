pub mod Cores
pub mod Counting
pub mod Idle
pub mod Replay
