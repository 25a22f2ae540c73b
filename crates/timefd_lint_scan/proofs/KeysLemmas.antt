pub mod ReadingLemmas
pub mod VisitLemmas
pub mod FoundLemmas
pub mod NumberLemmas
pub mod KeyLemmas
pub mod NameLemmas
pub mod SpelledLemmas
