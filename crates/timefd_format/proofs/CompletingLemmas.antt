pub mod GivenLemmas
pub mod SoughtLemmas
pub mod CompletedLemmas
pub mod LawLemmas
