pub mod Modern
pub mod Parsed
pub mod Descriptions
pub mod Formatted
pub mod ReadAnswers
pub mod Sentences
pub mod Guessing
