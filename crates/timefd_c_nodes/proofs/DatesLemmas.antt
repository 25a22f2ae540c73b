pub mod WalkLemmas
pub mod StepLemmas
