-- What is found in a string.
use Rattle.std.proofs.Common.{ℕ, ◌≡◌, ◌<◌, ◌≤◌, ◌+◌, ◌^◌, ◌-◌, true, false, arith, ap, sym, subst, ◌∙◌}
use Rattle.std.specs.Option.{option_or}
use Rattle.std.specs.Prelude.{Bool, Option, Some, None, if◌then◌else◌, min}
use Rattle.timefd_lint_scan.specs.Bytes.{Text}
use Rattle.timefd_lint_scan.specs.declared.description.SourceDescription.{SourceDescription}
use Rattle.timefd_lint_scan.specs.declared.dialect.FormatLanguage.{FormatLanguage}
use Rattle.timefd_lint_scan.specs.declared.keys.format.FileFormat.{FileFormat}
use Rattle.timefd_lint_scan.specs.declared.keys.spot.Elements.{Elements}
use Rattle.timefd_lint_scan.specs.declared.keys.spot.KeySpot.{KeySpot}
use Rattle.timefd_lint_scan.specs.declared.keys.step.Step.{Step}
use Rattle.timefd_lint_scan.specs.Keys.Comments.{reported_after}
use Rattle.timefd_lint_scan.specs.Keys.Found.{IsInLanguage, IsStep, LiesNot}
use Rattle.timefd_lint_scan.specs.Keys.Languages.{language_at, reported_of}
use Rattle.timefd_lint_scan.specs.Keys.Strings.{Reading, string_at}
use Rattle.timefd_lint_scan.specs.Keys.Visits.{is_unsure, string_visit, unread_in, unread_visit, visit_of}

-- It ends after all positions that there are.
pub too_long : (format : FileFormat) (source : Text) (start : ℕ) (reading : Reading)
    → Some reading ≡ string_at format source start → 2 ^ 64 - 1 ≤ reading.closing
    → LiesNot source start (string_at format source start)
too_long format source start reading read long =
    subst (LiesNot source start) read (λ small lies. contrary small)
  where
    contrary : reading.closing < 2 ^ 64 - 1 → ⊥
    contrary small = absurd (omega (arith, long, small))

-- A string in the language that a comment after it names, or else in another.
pub string_reported : (format : FileFormat) (source : Text) (start : ℕ) (reading : Reading)
    (reported other language : Option FormatLanguage) (answer : Option SourceDescription)
    → Some reading ≡ string_at format source start
    → reported ≡ reported_after format source reading.closing → language ≡ option_or reported other
    → IsInLanguage format source start language answer
    → IsInLanguage format source start (language_at format source start other) answer
string_reported format source start reading reported other language answer read after is found =
    subst (λ (l : Option FormatLanguage). IsInLanguage format source start l answer)
    (is ∙ ap (λ (t : Option FormatLanguage). option_or t other) (after ∙ ap (reported_of format source) read)) found

-- Its end isn't known.
pub unsure_step : (format : FileFormat) (source : Text) (other : Option FormatLanguage) (start depth : ℕ)
    (list : Option Elements) (past : KeySpot) (test : Bool) (step : Step)
    → test ≡ is_unsure format source start depth → test ≡ true
    → step.found ≡ None → step.unread ≡ unread_in other start → step.next ≡ past
    → IsStep format source (string_visit format source other start depth list past) step
unsure_step format source other start depth list past test step unsure holds found unread next =
    subst (λ (b : Bool). IsStep format source
    (if b then unread_visit other start past else visit_of other start depth list past (string_at format source start)) step)
    (sym holds ∙ unsure) (record { found = found; unread = unread; next = next })

-- There is no string.
pub no_string_step : (format : FileFormat) (source : Text) (other : Option FormatLanguage) (start depth : ℕ)
    (list : Option Elements) (past : KeySpot) (test : Bool) (step : Step)
    → test ≡ is_unsure format source start depth → test ≡ false → None ≡ string_at format source start
    → step.found ≡ None → step.unread ≡ unread_in other start → step.next ≡ past
    → IsStep format source (string_visit format source other start depth list past) step
no_string_step format source other start depth list past test step unsure fails none found unread next =
    subst (λ (b : Bool). IsStep format source
    (if b then unread_visit other start past else visit_of other start depth list past (string_at format source start)) step)
    (sym fails ∙ unsure)
    (subst (λ (r : Option Reading). IsStep format source (visit_of other start depth list past r) step) none
    (record { found = found; unread = unread; next = next }))

-- There is one, and its end is known.
pub string_step : (format : FileFormat) (source : Text) (other : Option FormatLanguage) (start depth : ℕ)
    (list : Option Elements) (past : KeySpot) (test : Bool) (reading : Reading) (step : Step)
    → test ≡ is_unsure format source start depth → test ≡ false → Some reading ≡ string_at format source start
    → IsInLanguage format source start (language_at format source start other) step.found
    → step.unread ≡ None
    → step.next ≡ record { at = min (reading.closing + 1) (2 ^ 64 - 1); depth = depth; list = list }
    → IsStep format source (string_visit format source other start depth list past) step
string_step format source other start depth list past test reading step unsure fails read found unread next =
    subst (λ (b : Bool). IsStep format source
    (if b then unread_visit other start past else visit_of other start depth list past (string_at format source start)) step)
    (sym fails ∙ unsure)
    (subst (λ (r : Option Reading). IsStep format source (visit_of other start depth list past r) step) read
    (record { found = found; unread = unread; next = next }))
