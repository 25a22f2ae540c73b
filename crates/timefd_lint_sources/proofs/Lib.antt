pub mod CodeLemmas
pub mod CommentLemmas
pub mod ReachLemmas
mod ItemLemmas
mod OpeningLemmas
mod SearchLemmas
mod JudgementLemmas
mod JudgedLemmas
mod ReportedLemmas
mod ReportLemmas
pub mod FinderLemmas
mod NoCodeLemmas
mod SeenLemmas
pub mod PlacedLemmas
pub mod RewritingLemmas
