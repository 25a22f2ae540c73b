pub mod Meaning
pub mod Description
pub mod Builder
pub mod Content
