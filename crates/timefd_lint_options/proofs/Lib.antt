pub mod AskedLemmas
pub mod SuggestionLemmas
pub mod KeyWordLemmas
pub mod OrderLemmas
pub mod ConfigLemmas
