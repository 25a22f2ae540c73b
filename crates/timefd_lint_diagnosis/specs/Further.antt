-- What is wrong with a text besides its first fault: what was at fault is left out, and the text is
-- looked at again.
use Rattle.std.specs.Prelude.{ℕ, zero, suc, ◌≡◌, ◌-◌, ◌==◌, List, [], ◌∷◌, ◌++◌, codes, length, take, drop, Option, None, Some, option_map, if◌then◌else◌, string_bytes}
use Rattle.std.specs.Option.{option_and_then}
use Rattle.std.specs.List.{repeat}
use Rattle.std.specs.Path.{rfind_below}
use Rattle.timefd_parse.specs.Tree.{Text, Tree}
use Rattle.timefd_lang_fault.specs.Faults.{Fault, fault_of}
use Rattle.timefd_language.specs.Bytes.{left, backslash, right, is_special}
use Rattle.timefd_language.specs.Grammar.{nesting_limit}
use Rattle.timefd_language.specs.Strftime.{percent}
use Rattle.timefd_language.specs.declared.description_version.Language.{Language}
use Rattle.timefd_language.specs.declared.description_version.Language.TheVariants.{Version, Strftime}
use Rattle.timefd_parse.specs.Language.{SpellsIn}
use Rattle.timefd_lang_fault.specs.declared.code.Code.{Code}
use Rattle.timefd_lang_fault.specs.declared.code.Code.TheVariants.{UnclosedBracket, UnknownName, InvalidModifier, MissingName, MissingModifier, InvalidEscape, UnescapedBracket, MissingSpace, MissingDescription, MissingAlternative, NestedTooDeep, SeveralDescriptions, OptionalItem, FirstItem, UnsupportedFlag, UnsupportedLetter, NestedInComponent, DuplicateModifier, RefusedModifier}
use Rattle.timefd_lint_diagnosis.specs.declared.diagnostic.Diagnostic.{Diagnostic}
use Rattle.timefd_lint_diagnosis.specs.declared.further.Sides.{Sides}
use Rattle.timefd_lint_diagnosis.specs.declared.further.LeftOutMark.{LeftOutMark}
use Rattle.timefd_lint_diagnosis.specs.declared.further.LeftOutMark.TheVariants.{Bracket, Backslash, Closing, Percent}
use Rattle.timefd_lang_fault.specs.Codes.{code_of}
use Rattle.timefd_lint_diagnosis.specs.Diagnoses.{IsDiagnosed}

-- What is left out begins with this.
abbrev pub byte_of : LeftOutMark → ℕ
byte_of Bracket = left
byte_of Backslash = backslash
byte_of Closing = right
byte_of Percent = percent

-- What is left out: a bracket that is at fault by itself, an escape by its backslash, and a bracket that
-- needed an escape. After any other fault of a version, what follows would be guesswork.
abbrev pub version_mark : Code → Option LeftOutMark
version_mark UnclosedBracket = None
version_mark UnknownName = Some Bracket
version_mark InvalidModifier = Some Bracket
version_mark MissingName = Some Bracket
version_mark MissingModifier = Some Bracket
version_mark InvalidEscape = Some Backslash
version_mark UnescapedBracket = Some Closing
version_mark MissingSpace = None
version_mark MissingDescription = None
version_mark MissingAlternative = None
version_mark NestedTooDeep = None
version_mark SeveralDescriptions = None
version_mark OptionalItem = None
version_mark FirstItem = None
version_mark UnsupportedFlag = None
version_mark UnsupportedLetter = None
version_mark NestedInComponent = None
version_mark DuplicateModifier = Some Bracket
version_mark RefusedModifier = Some Bracket

-- In strftime it is the `%` with its flag: a letter alone is a literal.
abbrev pub mark_of : Language → Code → Option LeftOutMark
mark_of (Version v) code = version_mark code
mark_of Strftime code = Some Percent

-- what precedes the last byte of this kind
abbrev pub before_last : ℕ → Text → Option Text
before_last byte front = option_map (λ k. take k front) (rfind_below byte front (length front))

-- What precedes the byte at an index, if it is of this kind, or else the last such byte before it; and
-- what follows the byte at the index, or else the text from the index on.
abbrev pub opened : ℕ → Text → Text → Option (Text × Text)
opened byte front [] = option_map (λ before. (before, [])) (before_last byte front)
opened byte front (b ∷ rest) =
    if b == byte then Some (front, rest)
    else option_map (λ before. (before, b ∷ rest)) (before_last byte front)

-- what follows the next `]`, if no other bracket and no backslash precedes it
abbrev pub after_closing : Text → Option Text
after_closing [] = None
after_closing (b ∷ text) =
    if b == right then Some text
    else if is_special b then None
    else after_closing text

abbrev pub closed : Text × Text → Option (Text × Text)
closed sides = option_map (λ rest. (sides.0, rest)) (after_closing sides.1)

-- A bracket is left out up to its end.
abbrev pub finished : LeftOutMark → Option (Text × Text) → Option (Text × Text)
finished Bracket sides = option_and_then closed sides
finished Backslash sides = sides
finished Closing sides = sides
finished Percent sides = sides

-- the text on both sides of what is left out for a fault at an index
abbrev pub sides_at : LeftOutMark → Text → ℕ → Option (Text × Text)
sides_at mark text index =
    finished mark (opened (byte_of mark) (take index text) (drop index text))

-- It is replaced by as many spaces.
abbrev pub with_spaces : Text → Text × Text → Text
with_spaces text sides =
    sides.0 ++ (repeat (length text - length sides.0 - length sides.1) (codes " ") ++ sides.1)

-- At most 20 faults of a text are reported.
abbrev pub most_further : ℕ
most_further = 19

-- the text with spaces instead of what is at fault: none if nothing can be left out
abbrev pub without : Language → Text → Fault → Option Text
without language text f =
    option_map (with_spaces text)
    (option_and_then (λ mark. sides_at mark text f.index) (mark_of language (code_of f.kind)))

-- what is around a stretch, as texts
abbrev pub sides_of : Option Sides → Option (Text × Text)
sides_of found = option_map (λ s. (s.before.now, s.after.now)) found

-- The text has a fault, and without what was at fault it has another one, and so on, up to a number of
-- faults, until it is accepted or nothing can be left out. Each diagnostic is about the text that is
-- looked at, in which all other bytes keep their positions.
abbrev pub AreFurther : ℕ → Language → Option Text → List Diagnostic → Type 0
AreFurther zero language rest found = found ≡ []
AreFurther (suc n) language None found = found ≡ []
AreFurther (suc n) language (Some text) [] =
    (list : List Tree) × SpellsIn language nesting_limit text list
AreFurther (suc n) language (Some text) (d ∷ found) =
    IsDiagnosed language text d × AreFurther n language (without language text (fault_of d.fault)) found

-- all that is reported about a refused text: its first fault, and further ones
pub record AreDiagnosed (language : Language) (text : Text) (d : Diagnostic) (found : List Diagnostic)
    : Type 0 where
  pub first : IsDiagnosed language text d
  pub further : AreFurther most_further language (without language text (fault_of d.fault)) found
