mod SentenceLemmas
pub mod FaultEqualityLemmas
pub mod Rows
pub mod CodeLemmas
pub mod ExcerptLemmas
pub mod PartLemmas
pub mod OwnedLemmas
pub mod BorrowedLemmas
