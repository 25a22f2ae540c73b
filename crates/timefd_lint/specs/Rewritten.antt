-- Sources that are rewritten.
use Rattle.std.specs.Prelude.{◌≡◌, List, [], count_by, length, IsUtf8}
use Rattle.timefd_parse.specs.Tree.{Text}
use Rattle.timefd_lint_rewrite.specs.declared.counts.Counts.{Counts}
use Rattle.timefd_lint_sources.specs.declared.rewriting.change.Change.{Change}
use Rattle.timefd_lint_sources.specs.declared.rewriting.outcome.Outcome.{Outcome}
use Rattle.timefd_lint_sources.specs.declared.rewriting.source.NewSource.{NewSource}
use Rattle.timefd_lint_sources.specs.declared.reported.Finder.{Finder}
use Rattle.timefd_lint_sources.specs.declared.reported.Finder.TheVariants.{Rust, Keys}
use Rattle.timefd_lint_sources.specs.Rewriting.Values.{IsFoundRewritten}
use Rattle.timefd_lint_sources.specs.Rewriting.Written.{is_refusing, is_rewriting}
use Rattle.timefd_lint_scan.specs.declared.description.SourceDescription.{SourceDescription}
use Rattle.timefd_lint_scan.specs.Keys.Found.{AreAllValues}
use Rattle.timefd_lint.specs.Manual.{AreNotes}
use Rattle.timefd_lint.specs.ValueNotes.{AreLimits, unwritable}

-- how many descriptions there are, how many are rewritten, and how many stay with a fault
pub record AreCounted (outcomes : List Outcome) (counts : Counts) : Type 0 where
  pub all : counts.lines ≡ length outcomes
  pub rewritten : counts.rewritten ≡ count_by is_rewriting outcomes
  pub refused : counts.refused ≡ count_by is_refusing outcomes

pub record IsRewrittenAs (change : Change) (finder : Finder) (source : Text) (counts : Counts) (new : Text) : Type 0 where
  pub all : NewSource
  pub is : IsFoundRewritten change finder source all
  pub counted : AreCounted all.outcomes.items counts
  pub written : new ≡ all.bytes.items

-- A source is mended or converted. One that isn't UTF-8 is left alone.
pub record IsFileRewritten (change : Change) (finder : Finder) (source : Text) (counts : Counts) (new : Text) : Type 0 where
  pub text : IsUtf8 source → IsRewrittenAs change finder source counts new
  pub no_text : (¬ IsUtf8 source) → AreCounted [] counts

-- The notes on what has to be changed manually: on literals of Rust, or on values whose new texts no string can hold.
abbrev pub AreManualNotes : Change → Finder → Text → Text → List Outcome → Text → Type 0
AreManualNotes change (Rust calls) name source outcomes notes = AreNotes change name source calls.now outcomes notes
AreManualNotes change (Keys format keys) name source outcomes notes = (values : List SourceDescription)
    × AreAllValues format source keys.now values × (notes ≡ unwritable name source values outcomes)

-- The notes on values that version 3 writes alike for some moments alone.
abbrev pub AreNotesOnLimits : Change → Finder → Text → Text → Text → Type 0
AreNotesOnLimits change (Rust calls) name source notes = notes ≡ []
AreNotesOnLimits change (Keys format keys) name source notes = (values : List SourceDescription)
    × AreAllValues format source keys.now values × AreLimits change name source values [] notes

pub record IsNotedAs (change : Change) (finder : Finder) (name source manual limits : Text) : Type 0 where
  pub all : NewSource
  pub is : IsFoundRewritten change finder source all
  pub noted : AreManualNotes change finder name source all.outcomes.items manual
  pub limited : AreNotesOnLimits change finder name source limits

-- The notes on a source that is mended or converted. There is none on one that isn't UTF-8.
pub record IsFileNoted (change : Change) (finder : Finder) (name source manual limits : Text) : Type 0 where
  pub text : IsUtf8 source → IsNotedAs change finder name source manual limits
  pub no_text : (¬ IsUtf8 source) → (manual ≡ []) × (limits ≡ [])
