-- What replaces the lines that are rewritten.
use Rattle.std.specs.Prelude.{◌≡◌, ◌≢◌, ◌+◌, Bool, true, false, List, ◌++◌, Option, Some, None, All, IsUtf8, ⊤, flat_map, map, length, count_by, if◌then◌else◌}
use Rattle.std.specs.Io.KnownBytes.{Appends, Keeps, IsAtEnd}
use denote.Ref.{Bor}
use Rattle.timefd_parse.specs.Tree.{Text}
use Rattle.timefd_lint_rewrite.specs.declared.counts.Counts.{Counts}
use Rattle.timefd_lint_rewrite.specs.declared.counts.LineOutcome.{LineOutcome}
use Rattle.timefd_lint_rewrite.specs.declared.counts.LineOutcome.TheVariants.{PassedOver, Same, Rewritten, Refused, NotText, NotALine}
use Rattle.timefd_lint_rewrite.specs.declared.line_change.LineChange.{LineChange}
use Rattle.timefd_lint_rewrite.specs.declared.rewrite.RewriteError.{RewriteError}
use Rattle.timefd_lint_rewrite.specs.declared.rewrite.RewriteError.TheVariants.{Memory, Read, Write}
use Rattle.timefd_lint_rewrite.specs.LineChanges.{IsChanged, IsUnchangeable}
use Rattle.timefd_lint_rewrite.specs.Lines.{AreLinesOf, IsNextLine, end_of, has_newline, is_passed_over, without_newline}

-- What replaces a line: the text that it is converted or mended to, with the line's own end, if there is such
-- a text and it is a line. Else it is the line itself, byte by byte.
abbrev pub StandsFor : LineChange → Text → LineOutcome → Text → Type 0
StandsFor change line PassedOver position = position ≡ line
StandsFor change line Same position =
    IsChanged change (without_newline line) (without_newline line) × (position ≡ line)
StandsFor change line Rewritten position =
    (answer : Text) × IsChanged change (without_newline line) answer
    × (answer ≢ without_newline line) × (has_newline answer ≡ false)
    × (position ≡ answer ++ end_of line)
StandsFor change line Refused position = IsUtf8 (without_newline line)
    × IsUnchangeable change (without_newline line) × (position ≡ line)
StandsFor change line NotText position = (¬ IsUtf8 (without_newline line)) × (position ≡ line)
StandsFor change line NotALine position =
    (answer : Text) × IsChanged change (without_newline line) answer
    × (has_newline answer ≡ true) × (position ≡ line)

abbrev pub is_passing_over : LineOutcome → Bool
is_passing_over PassedOver = true
is_passing_over Same = false
is_passing_over Rewritten = false
is_passing_over Refused = false
is_passing_over NotText = false
is_passing_over NotALine = false

abbrev pub is_rewriting : LineOutcome → Bool
is_rewriting PassedOver = false
is_rewriting Same = false
is_rewriting Rewritten = true
is_rewriting Refused = false
is_rewriting NotText = false
is_rewriting NotALine = false

-- Lines that aren't UTF-8 or would become more than a line count as refused.
abbrev pub is_refusing : LineOutcome → Bool
is_refusing PassedOver = false
is_refusing Same = false
is_refusing Rewritten = false
is_refusing Refused = true
is_refusing NotText = true
is_refusing NotALine = true

-- A line with its newline, its outcome, and what replaces it.
pub record Placed : Type 0 where
  pub line : Text
  pub outcome : LineOutcome
  pub position : Text

-- A line is passed over exactly if it is empty or a comment.
pub record IsPlaced (change : LineChange) (comment : Option (Bor Text)) (p : Placed) : Type 0
  where
    pub passed_over : is_passing_over p.outcome ≡ is_passed_over comment (without_newline p.line)
    pub stands : StandsFor change p.line p.outcome p.position

-- The lines, and their replacements, in order.
abbrev pub lines_of : List Placed → List Text
lines_of placed = map (λ p. p.line) placed

abbrev pub positions_of : List Placed → Text
positions_of placed = flat_map (λ p. p.position) placed

-- How many lines there are, how many are rewritten, and how many are refused.
abbrev pub counts_of : List Placed → Counts
counts_of placed = record {
  lines = length placed;
  rewritten = count_by (λ p. is_rewriting p.outcome) placed;
  refused = count_by (λ p. is_refusing p.outcome) placed;
}

abbrev pub with_one : Counts → LineOutcome → Counts
with_one counts outcome = record {
  lines = counts.lines + 1;
  rewritten = if is_rewriting outcome then counts.rewritten + 1 else counts.rewritten;
  refused = if is_refusing outcome then counts.refused + 1 else counts.refused;
}

-- The replacements of these lines are written after what was there, and nothing else is.
pub record AreWritten (change : LineChange) (comment : Option (Bor Text))
    (before after : Option Text) (placed : List Placed) : Type 0 where
  pub each : All (IsPlaced change comment) placed
  pub written : Appends before after (positions_of placed)

-- All lines of a reader are rewritten, and counted.
pub record AreRewritten (change : LineChange) (comment : Option (Bor Text))
    (bytes before after : Option Text) (counts : Counts) : Type 0 where
  pub placed : List Placed
  pub are_written : AreWritten change comment before after placed
  pub all_lines : AreLinesOf bytes (lines_of placed) false
  pub counted : counts ≡ counts_of placed

-- Only the lines in front of a rest are rewritten.
pub record AreFront (change : LineChange) (comment : Option (Bor Text))
    (bytes before after : Option Text) : Type 0 where
  pub placed : List Placed
  pub are_written : AreWritten change comment before after placed
  pub lines_in_front : AreLinesOf bytes (lines_of placed) true

-- If memory runs out or a read fails, nothing more is written.
abbrev pub AreCutShort : LineChange → Option (Bor Text) → Option Text → Option Text → Option Text
    → RewriteError → Type 0
AreCutShort change comment bytes before after Memory =
    AreFront change comment bytes before after
AreCutShort change comment bytes before after Read =
    AreFront change comment bytes before after
AreCutShort change comment bytes before after Write = ⊤

-- If memory runs out or a read fails at one line, nothing is written for it.
abbrev pub IsUnwritten : Option Text → Option Text → RewriteError → Type 0
IsUnwritten before after Memory = Keeps before after
IsUnwritten before after Read = Keeps before after
IsUnwritten before after Write = ⊤

-- The replacement of one line is written.
abbrev pub Positions : LineChange → Option (Bor Text) → Text → Option Text → Option Text → LineOutcome
    → Type 0
Positions change comment line before after outcome =
    (position : Text)
    × IsPlaced change comment (record { line = line; outcome = outcome; position = position })
    × Appends before after position

-- An answer replaces a line, with the line's end; or the line stays, if it has that text already or the
-- answer has a newline.
abbrev pub IsAnswer : Text → Text → LineOutcome → Text → Type 0
IsAnswer line answer PassedOver position = ⊥
IsAnswer line answer Same position = (answer ≡ without_newline line) × (position ≡ line)
IsAnswer line answer Rewritten position = (answer ≢ without_newline line)
    × (has_newline answer ≡ false) × (position ≡ answer ++ end_of line)
IsAnswer line answer Refused position = ⊥
IsAnswer line answer NotText position = ⊥
IsAnswer line answer NotALine position = (has_newline answer ≡ true) × (position ≡ line)

abbrev pub PositionsAnswer : Text → Text → Option Text → Option Text → LineOutcome → Type 0
PositionsAnswer line answer before after outcome =
    (position : Text) × IsAnswer line answer outcome position × Appends before after position

-- What happens with one more line. At the end of the bytes nothing is written.
abbrev pub IsNext : LineChange → Option (Bor Text) → Option Text → Option Text → Option Text
    → Option Text → Option LineOutcome → Type 0
IsNext change comment bytes rest before after None = IsAtEnd bytes × Keeps before after
IsNext change comment bytes rest before after (Some outcome) =
    (line : Text) × IsNextLine bytes line rest
    × Positions change comment line before after outcome
