pub mod Candidates
pub mod Found
