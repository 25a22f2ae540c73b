pub mod Tree
pub mod Modern
pub mod Reserved
pub mod Texts
pub mod Equality
pub mod ComponentEquality
pub mod Laws
pub mod Bracket
