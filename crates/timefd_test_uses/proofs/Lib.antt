pub mod PositionLemmas
pub mod UpgradeLemmas
pub mod ReadLemmas
pub mod LineLemmas
