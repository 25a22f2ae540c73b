pub mod AnswerLemmas
pub mod AsideLemmas
pub mod SourceLemmas
pub mod ValueLemmas
