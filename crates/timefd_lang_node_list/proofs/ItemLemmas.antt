pub mod EqualityLemmas
pub mod TreeLemmas
