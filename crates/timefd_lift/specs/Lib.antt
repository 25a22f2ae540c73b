pub mod Bytewise
pub mod Answers
pub mod Written
pub mod Plain
pub mod Laws
pub mod Modernized
