pub mod Samples
pub mod Shown
pub mod Examples
pub mod Parts
pub mod Inside
pub mod Stands
pub mod Lines
