pub mod AsciiLemmas
pub mod PieceLemmas
pub mod ProgressLemmas
pub mod ReportLemmas
pub mod WholeLemmas
pub mod RoomLemmas
pub mod CountedLemmas
