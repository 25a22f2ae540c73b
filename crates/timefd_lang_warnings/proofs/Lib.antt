pub mod ScanLemmas
pub mod LawLemmas
pub mod LevelLemmas
pub mod ReadLemmas
pub mod SettledLemmas
