pub mod Judging
pub mod Codes
