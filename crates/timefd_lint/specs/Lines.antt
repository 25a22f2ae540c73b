-- How the check of a text ends.
use Rattle.std.specs.Prelude.{◌≡◌, Option, IsUtf8, IsTrue, IsFalse, length}
use denote.Ref.{Bor}
use Rattle.timefd_parse.specs.Tree.{Text}
use Rattle.timefd_lint_options.specs.declared.wording.LineLanguage.{LineLanguage}
use Rattle.timefd_lint_options.specs.declared.wording.LineLanguage.TheVariants.{Own, Other}
use Rattle.timefd_lint_rewrite.specs.Lines.{is_passed_over}
use Rattle.timefd_lint_scan.specs.declared.known.Items.{Items}
use Rattle.timefd_lint_sources.specs.declared.reported.Reporting.{Reporting}
use Rattle.timefd_lint_sources.specs.declared.judgement.RefusedParts.TheVariants.{Unwritable}
use Rattle.timefd_lint_sources.specs.declared.judgement.TextPlace.{TextPlace}
use Rattle.timefd_lint_sources.specs.declared.judgement.TextPlace.TheVariants as places
use Rattle.timefd_lint_sources.specs.declared.judgement.TextJudgement.{TextJudgement}
use Rattle.timefd_lint_sources.specs.declared.judgement.TextJudgement.TheVariants as judgements
use Rattle.timefd_lint_sources.specs.Judgements.{IsJudgement, levels_of}
use Rattle.timefd_lint.specs.declared.line.TextEnd.{TextEnd}
use Rattle.timefd_lint.specs.declared.line.TextEnd.TheVariants.{PassedOver, Accepted, Converted, Refused, NotText, Allowed, Failed, UnreadCall, UnreadValue, WrongComment}

-- Where lines in this language stand: they don't take items that `parse` refuses, and each part of a format of another
-- language is refused for which version 3 has no text.
abbrev pub place_of : LineLanguage → TextPlace
place_of (Own language) = places.Own language Items.Refused
place_of (Other dialect) = places.Other dialect Unwritable

-- how the check of a text ends
abbrev pub end_of : TextJudgement → TextEnd
end_of (judgements.Accepted language found) = Accepted (levels_of found)
end_of (judgements.Faulty faults) = Refused
end_of (judgements.Right traps) = Converted (length traps.items)
end_of (judgements.Refused part) = Refused

-- This is what is wrong with a text in its language, and so its check ends.
pub record IsJudged (language : LineLanguage) (reporting : Reporting) (text : Text) (end : TextEnd) (judgement : TextJudgement)
    : Type 0 where
  pub judged : IsJudgement (place_of language) reporting.levels text judgement
  pub ends : end ≡ end_of judgement

abbrev pub IsEndBy : LineLanguage → Reporting → Text → TextEnd → Type 0
IsEndBy language reporting text end =
    IsUtf8 text × ((judgement : TextJudgement) × IsJudged language reporting text end judgement)

-- A text is accepted, converted or refused by its language. Otherwise it isn't UTF-8.
abbrev pub IsEndOf : LineLanguage → Reporting → Text → TextEnd → Type 0
IsEndOf language reporting text PassedOver = ⊥
IsEndOf language reporting text (Accepted found) = IsEndBy language reporting text (Accepted found)
IsEndOf language reporting text (Converted traps) = IsEndBy language reporting text (Converted traps)
IsEndOf language reporting text Refused = IsEndBy language reporting text Refused
IsEndOf language reporting text NotText = ¬ IsUtf8 text
IsEndOf language reporting text (Allowed left) = ⊥
IsEndOf language reporting text Failed = ⊥
IsEndOf language reporting text UnreadCall = ⊥
IsEndOf language reporting text UnreadValue = ⊥
IsEndOf language reporting text WrongComment = ⊥

-- The end of a line's check: the line is passed over, or the end is that of a text.
abbrev pub IsLineEnd : LineLanguage → Option (Bor Text) → Reporting → Text → TextEnd → Type 0
IsLineEnd language comment reporting line PassedOver = IsTrue (is_passed_over comment line)
IsLineEnd language comment reporting line (Accepted found) = IsFalse (is_passed_over comment line)
    × IsEndOf language reporting line (Accepted found)
IsLineEnd language comment reporting line (Converted traps) = IsFalse (is_passed_over comment line)
    × IsEndOf language reporting line (Converted traps)
IsLineEnd language comment reporting line Refused = IsFalse (is_passed_over comment line)
    × IsEndOf language reporting line Refused
IsLineEnd language comment reporting line NotText = IsFalse (is_passed_over comment line)
    × IsEndOf language reporting line NotText
IsLineEnd language comment reporting line (Allowed left) = ⊥
IsLineEnd language comment reporting line Failed = ⊥
IsLineEnd language comment reporting line UnreadCall = ⊥
IsLineEnd language comment reporting line UnreadValue = ⊥
IsLineEnd language comment reporting line WrongComment = ⊥
