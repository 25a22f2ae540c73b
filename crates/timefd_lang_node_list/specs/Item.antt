pub mod Meaning
pub mod Equality
pub mod TreeEquality
pub mod Laws
