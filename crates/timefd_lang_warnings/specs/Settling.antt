pub mod Bounds
pub mod Settled
pub mod Reached
