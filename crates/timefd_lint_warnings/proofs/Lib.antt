pub mod FoundLemmas
pub mod HintLemmas
pub mod MessageLemmas
