pub mod FilesLemmas
pub mod SourcesLemmas
pub mod ReportedLemmas
pub mod TextLemmas
pub mod MarkLemmas
pub mod RewrittenLemmas
pub mod RuleLemmas
pub mod NoCodeLemmas
pub mod NoneOfLemmas
pub mod ArgumentLemmas
mod LimitedLemmas
mod ValueNoteLemmas
pub mod FateLemmas
pub mod InMemoryLemmas
pub mod LiteralLemmas
pub mod ManualLemmas
pub mod StoreLemmas
pub mod SplitLemmas
pub mod UnusableLemmas
pub mod StatusLemmas
pub mod SessionLemmas
pub mod ProjectLemmas
pub mod PartLemmas
