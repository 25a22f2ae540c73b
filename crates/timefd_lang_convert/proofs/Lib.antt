pub mod FlatLemmas
pub mod LetterLemmas
pub mod LengthLemmas
pub mod ItemLemmas
pub mod ConvertLemmas
pub mod PrintingLemmas
