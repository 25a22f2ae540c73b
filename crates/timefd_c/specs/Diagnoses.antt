-- The answer to C about a fault.
use Rattle.std.specs.Prelude.{ℕ, ◌≡◌, ◌≤◌, ◌<◌, ◌++◌, true, false, Option, Some, None, length, drop}
use Rattle.timefd_lang_component.specs.Tree.{Text}
use Rattle.timefd_parse.specs.Faults.{Fault}
use Rattle.timefd_language.specs.declared.description_version.Language.{Language}
use Rattle.timefd_parse.specs.Codes.{code_of}
use Rattle.timefd_lint_diagnosis.specs.Helps.{IsHelpFor, nearest_in}
use Rattle.timefd_language.specs.Spans.{end_of}
use Rattle.timefd_parse.specs.Code.{Code}
use Rattle.timefd_parse.specs.Code.TheVariants.{UnclosedBracket, UnknownName, InvalidModifier, MissingName, MissingModifier, InvalidEscape, UnescapedBracket, MissingSpace, MissingDescription, MissingAlternative, NestedTooDeep, SeveralDescriptions, OptionalItem, FirstItem, UnsupportedFlag, UnsupportedLetter, NestedInComponent, DuplicateModifier, RefusedModifier}
use Rattle.timefd_lint_diagnosis.specs.declared.help.Help.{Help}
use Rattle.timefd_c.specs.declared.diagnosis.FaultFields.{FaultFields}

-- the numbers of the codes
abbrev pub code_number : Code → ℕ
code_number UnclosedBracket = 1
code_number UnknownName = 2
code_number InvalidModifier = 3
code_number MissingName = 4
code_number MissingModifier = 5
code_number InvalidEscape = 6
code_number UnescapedBracket = 7
code_number MissingSpace = 8
code_number MissingDescription = 9
code_number MissingAlternative = 10
code_number NestedTooDeep = 11
code_number SeveralDescriptions = 12
code_number OptionalItem = 13
code_number FirstItem = 14
code_number UnsupportedFlag = 15
code_number UnsupportedLetter = 16
code_number NestedInComponent = 17
code_number DuplicateModifier = 18
code_number RefusedModifier = 19

-- what is reported if there is no fault
abbrev pub no_fault : FaultFields
no_fault = record {
  code = 0;
  out_of_memory = false;
  start = 0;
  end = 0;
  nearest_len = 0;
  nearest_written = 0;
}

-- The buffer begins with the word if all of it fits, and is otherwise unchanged. If there is no word, the
-- length is 0.
abbrev pub IsWordReported : Option Text → Text → Text → ℕ → ℕ → Type 0
IsWordReported (Some word) before after len written =
    (len ≡ length word)
    × (length word ≤ length before
    → (after ≡ word ++ drop (length word) before) × (written ≡ length word))
    × (length before < length word → (after ≡ before) × (written ≡ 0))
IsWordReported None before after len written = (after ≡ before) × (len ≡ 0) × (written ≡ 0)

-- The code is that of the fault, the bytes at fault are those of the linter's diagnosis, and the word is
-- the nearest one that the diagnosis's help names.
pub record IsDiagnosed (language : Language) (text : Text) (f : Fault) (before after : Text)
    (d : FaultFields) : Type 0 where
  pub code : d.code ≡ code_number (code_of f.kind)
  pub start : d.start ≡ f.index
  pub end : d.end ≡ end_of language text f
  pub nearest : d.out_of_memory ≡ false → (help : Help) × IsHelpFor language text f help
      × IsWordReported (nearest_in help) before after d.nearest_len d.nearest_written
  pub unsought : d.out_of_memory ≡ true
      → IsWordReported None before after d.nearest_len d.nearest_written
