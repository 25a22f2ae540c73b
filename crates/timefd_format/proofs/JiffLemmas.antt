pub mod LeapLemmas
pub mod DayLemmas
pub mod SignedLemmas
pub mod ReadLemmas
pub mod AnnotatedLemmas
pub mod InForceLemmas
