-- The cure of a fault.
use Rattle.std.specs.Prelude.{ℕ, ◌≡◌, ◌++◌, codes, Option, Some, None, MatchOption, take, drop, nat_lt, ⊤, ◌⊎◌, if◌then◌else◌}
use Rattle.std.specs.Str.{IsCharBoundary}
use Rattle.timefd_parse.specs.Tree.{Text}
use Rattle.timefd_parse.specs.Faults.{fault_of}
use Rattle.timefd_language.specs.declared.description_version.Language.{Language}
use Rattle.timefd_language.specs.declared.description_version.Language.TheVariants.{Version, Strftime}
use Rattle.timefd_parse.specs.Code.{Code}
use Rattle.timefd_parse.specs.Code.TheVariants.{UnclosedBracket, UnknownName, InvalidModifier, MissingName, MissingModifier, InvalidEscape, UnescapedBracket, MissingSpace, MissingDescription, MissingAlternative, NestedTooDeep, SeveralDescriptions, OptionalItem, FirstItem, UnsupportedFlag, UnsupportedLetter, NestedInComponent, DuplicateModifier, RefusedModifier}
use Rattle.timefd_lint_diagnosis.specs.declared.diagnostic.Diagnostic.{Diagnostic}
use Rattle.timefd_lint_diagnosis.specs.declared.help.Help.{Help}
use Rattle.timefd_parse.specs.Codes.{code_of}
use Rattle.timefd_lint_diagnosis.specs.Helps.{nearest_in}
use Rattle.timefd_lint_rewrite.specs.declared.cure.Fixes.{Fixes}
use Rattle.timefd_lint_rewrite.specs.declared.cure.Fixes.TheVariants.{Sure, All}

-- The mark that makes an escape of a byte that doesn't begin a valid one: the same byte again, which is a
-- guess.
abbrev pub escape_mark : Language → Fixes → Option Text
escape_mark language Sure = None
escape_mark (Version v) All = Some (codes "\\")
escape_mark Strftime All = Some (codes "%")

-- The mark that a fault needs in front of the part at fault.
abbrev pub mark_before : Language → Fixes → Code → Option Text
mark_before language fixes MissingSpace = Some (codes " ")
mark_before language fixes UnescapedBracket = Some (codes "\\")
mark_before language fixes InvalidEscape = escape_mark language fixes
mark_before language fixes UnclosedBracket = None
mark_before language fixes UnknownName = None
mark_before language fixes InvalidModifier = None
mark_before language fixes MissingName = None
mark_before language fixes MissingModifier = None
mark_before language fixes MissingDescription = None
mark_before language fixes MissingAlternative = None
mark_before language fixes NestedTooDeep = None
mark_before language fixes SeveralDescriptions = None
mark_before language fixes OptionalItem = None
mark_before language fixes FirstItem = None
mark_before language fixes UnsupportedFlag = None
mark_before language fixes UnsupportedLetter = None
mark_before language fixes NestedInComponent = None
mark_before language fixes DuplicateModifier = None
mark_before language fixes RefusedModifier = None

-- The word that is written instead of an invalid one: the nearest word, which is a guess.
abbrev pub word_instead : Fixes → Help → Option Text
word_instead Sure help = None
word_instead All help = nearest_in help

-- The text with a word instead of the bytes between two indices.
abbrev pub edited : Text → ℕ → ℕ → Text → Text
edited text start end word = take start text ++ word ++ drop end text

-- The edit can't be made because the second index is inside of a character, or it changes nothing.
abbrev pub IsNoEdit : Text → ℕ → ℕ → Text → Type 0
IsNoEdit text start end word = (¬ IsCharBoundary text end) ⊎ (edited text start end word ≡ text)

-- what is written against a diagnostic

-- No mark is written if the part at fault is empty, as after a flag of strftime that ends the text.
abbrev pub mark_for : Language → Fixes → Diagnostic → Option Text
mark_for language fixes d =
    if nat_lt d.span.start d.span.end
    then mark_before language fixes (code_of (fault_of d.fault).kind) else None

abbrev pub word_for : Fixes → Diagnostic → Option Text
word_for fixes d = word_instead fixes d.help

-- The cure of a diagnostic is written: the mark in front of the part at fault, or the word instead of it.
abbrev pub IsCured : Language → Fixes → Text → Diagnostic → Text → Type 0
IsCured language fixes text d after =
    MatchOption (mark_for language fixes d)
    (MatchOption (word_for fixes d) ⊥ (λ word. after ≡ edited text d.span.start d.span.end word))
    (λ mark. after ≡ edited text d.span.start d.span.start mark)

-- No cure may be written: there is neither a mark nor a word, or the word makes no edit.
abbrev pub IsIncurable : Language → Fixes → Text → Diagnostic → Type 0
IsIncurable language fixes text d =
    (mark_for language fixes d ≡ None)
    × MatchOption (word_for fixes d) ⊤ (λ word. IsNoEdit text d.span.start d.span.end word)
