pub mod Flat
pub mod Leaves
pub mod Laws
pub mod Answers
pub mod Conversions
pub mod Printing
