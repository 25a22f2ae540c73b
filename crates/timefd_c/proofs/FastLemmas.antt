-- What is shown of a moment at once.
pub mod CopyLemmas
pub mod RangeLemmas
pub mod SameLemmas
pub mod StepLemmas
pub mod WalkLemmas
