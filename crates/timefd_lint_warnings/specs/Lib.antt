pub mod Found
pub mod Hints
pub mod Messages
pub mod Dialects
