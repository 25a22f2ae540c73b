pub mod Changes
pub mod Aside
pub mod Written
pub mod Values
