pub mod ModernLemmas
pub mod ParsedLemmas
pub mod CompositeLemmas
pub mod FormatLemmas
pub mod WritingLemmas
pub mod ReadTextLemmas
pub mod GuessingLemmas
