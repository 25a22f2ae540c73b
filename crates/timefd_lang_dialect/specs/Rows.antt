-- Rows of a dialect's table, and which of them counts at a position.
use Rattle.std.specs.Prelude.{ℕ, Bool, true, false, not, ◌&&◌, nat_le, nat_lt, eqb, if◌then◌else◌, List, [], ◌∷◌, drop, length, Option, Some, None}
use Rattle.std.specs.Borrow.{Bor}
use Rattle.std.specs.List.{starts_with}
use Rattle.timefd_lang_component.specs.Tree.{Text}
use Rattle.timefd_lang_dialect.specs.declared.reason.Reason.{Reason}
use Rattle.timefd_lang_dialect.specs.declared.row.Row.{Row}
use Rattle.timefd_lang_dialect.specs.declared.row.NotBefore.{NotBefore}
use Rattle.timefd_lang_dialect.specs.declared.row.NotBefore.TheVariants.{Nothing, Lower, Digit}
use Rattle.timefd_lang_dialect.specs.declared.row.Verdict.{Verdict}
use Rattle.timefd_lang_dialect.specs.declared.row.Verdict.TheVariants.{Written, Refused}
use Rattle.timefd_lang_dialect.specs.declared.row.Range.{Range}
use Rattle.timefd_lang_dialect.specs.declared.row.Range.TheVariants.{Years0To9999}

-- a text of version 3 that writes the same within a range, or why there is none
pub data Meaning : Type 0 where
  written : Text → Range → Meaning
  refused : Reason → Meaning

-- a text in a format, what may not follow it, and what it means
pub record Entry : Type 0 where
  pub text : Text
  pub not_before : NotBefore
  pub meaning : Meaning

-- The words that the tables are written with.

infix 80 ◌means◌
abbrev pub ◌means◌ : Text → Text → Entry
text means other =
    record { text = text; not_before = Nothing; meaning = written other Years0To9999 }

infix 80 ◌refused_for◌
abbrev pub ◌refused_for◌ : Text → Reason → Entry
text refused_for reason =
    record { text = text; not_before = Nothing; meaning = refused reason }

-- the row means the same for the moments of a range
abbrev pub within : Range → Text → Text → Entry
within range text other =
    record { text = text; not_before = Nothing; meaning = written other range }

-- the row counts unless this follows
abbrev pub before : NotBefore → Text → Meaning → Entry
before not_before text meaning =
    record { text = text; not_before = not_before; meaning = meaning }

-- The rows as the code has them.

abbrev pub meaning_of : Verdict → Meaning
meaning_of (Written text range) = written text.now range
meaning_of (Refused reason) = refused reason

abbrev pub entry_of : Row → Entry
entry_of row =
    record { text = row.text.now; not_before = row.not_before; meaning = meaning_of row.verdict }

abbrev pub entries : List Row → List Entry
entries [] = []
entries (row ∷ rows) = entry_of row ∷ entries rows

abbrev pub found_entry : Option (Bor Row) → Option Entry
found_entry None = None
found_entry (Some row) = Some (entry_of row.now)

-- The longest row at a position.

-- the first byte is between two bounds, both included
abbrev pub begins_between : ℕ → ℕ → Text → Bool
begins_between low high [] = false
begins_between low high (b ∷ rest) = nat_le low b && nat_le b high

-- a row counts when the rest follows it
abbrev pub may_follow : NotBefore → Text → Bool
may_follow Nothing rest = true
may_follow Lower rest = not (begins_between 97 122 rest)
may_follow Digit rest = not (begins_between 48 57 rest)

-- the row is at the front of the text
abbrev pub stands : Entry → Text → Bool
stands row text = starts_with eqb text row.text
    && may_follow row.not_before (drop (length row.text) text)

abbrev pub longer : Option Entry → Entry → Entry
longer None row = row
longer (Some best) row = if nat_lt (length best.text) (length row.text) then row else best

abbrev pub better : Option Entry → Entry → Text → Option Entry
better best row text = if stands row text then Some (longer best row) else best

-- the longest row at the front of the text, of the best so far and these
abbrev pub longest_from : Option Entry → List Entry → Text → Option Entry
longest_from best [] text = best
longest_from best (row ∷ rows) text = longest_from (better best row text) rows text

-- the longest row at the front of the text
abbrev pub longest : List Entry → Text → Option Entry
longest rows text = longest_from None rows text
