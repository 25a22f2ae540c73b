pub mod LiteralLemmas
pub mod Building
pub mod PrintedLemmas
pub mod SpelledLemmas
pub mod LawLemmas
pub mod LoopLemmas
pub mod AnswerLemmas
