pub mod Faults
pub mod Levels
pub mod Calls
pub mod Config
pub mod Over
