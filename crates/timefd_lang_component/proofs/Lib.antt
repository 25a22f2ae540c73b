pub mod Greatest
pub mod Rows
pub mod ModernLemmas
pub mod EqualityLemmas
