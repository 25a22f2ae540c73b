pub mod Printed
pub mod Reasons
pub mod Laws
pub mod Answers
