-- What a text is converted to in a layout, or mended to.
use Rattle.std.specs.Prelude.{◌≡◌, List}
use Rattle.timefd_parse.specs.Tree.{Text, Tree}
use Rattle.timefd_parse.specs.Faults.{Fault}
use Rattle.timefd_language.specs.declared.description_version.DescriptionVersion.TheVariants.{Three}
use Rattle.timefd_parse.specs.ParseError.{ParseError}
use Rattle.timefd_language.specs.Grammar.{Spells, nesting_limit}
use Rattle.timefd_parse.specs.Language.{FaultIn, IsAssignedIn}
use Rattle.timefd_lang_convert.specs.declared.conversion.Conversion.{Conversion}
use Rattle.timefd_lang_convert.specs.declared.conversion.Conversion.TheVariants.{OneToTwo, OneToThree, TwoToThree, ThreeToThree, StrftimeToThree}
use Rattle.timefd_lang_convert.specs.Conversions.{IsConversion, KeepsItems, language_of}
use Rattle.timefd_lint_rewrite.specs.Chains.{IsFixed, IsLeft, IsLeftOf}
use Rattle.timefd_lint_rewrite.specs.declared.layout.Layout.{Layout}
use Rattle.timefd_lint_rewrite.specs.declared.layout.Layout.TheVariants.{Least, Normal, Fixed}

-- Version 3 spells the answer with the same items as the converted text.
abbrev pub ReadsAs : Text → Text → Type 0
ReadsAs rewritten answer = (list : List Tree) → Spells Three nesting_limit 0 rewritten list
    → Spells Three nesting_limit 0 answer list

-- If a conversion writes brackets from the start, another text with the same items may replace what it
-- returns.
abbrev pub IsNearer : Conversion → Text → Text → Type 0
IsNearer OneToTwo rewritten answer = answer ≡ rewritten
IsNearer OneToThree rewritten answer = ReadsAs rewritten answer
IsNearer TwoToThree rewritten answer = ReadsAs rewritten answer
IsNearer ThreeToThree rewritten answer = ReadsAs rewritten answer
IsNearer StrftimeToThree rewritten answer = answer ≡ rewritten

-- The answer is what the text is converted to, with the same items.
abbrev pub IsRewritten : Conversion → Text → Text → Type 0
IsRewritten conversion text answer =
    IsConversion conversion text answer × KeepsItems conversion text answer

-- The answer may replace what the text is converted to, and has the same items.
pub record IsLeast (conversion : Conversion) (text answer : Text) : Type 0 where
  pub rewritten : Text
  pub converted : IsConversion conversion text rewritten
  pub nearer : IsNearer conversion rewritten answer
  pub same_items : KeepsItems conversion text answer

abbrev pub IsConverted : Layout → Text → Text → Type 0
IsConverted (Least conversion) text answer = IsLeast conversion text answer
IsConverted (Normal conversion) text answer = IsRewritten conversion text answer
IsConverted (Fixed language fixes) text answer = IsFixed language fixes text answer

-- A text is refused for this fault: the one that it has in the language that it is converted from, or the one
-- that is left after mending.
abbrev pub IsRefusedFor : Layout → Text → Fault → Type 0
IsRefusedFor (Least conversion) text f = FaultIn (language_of conversion) nesting_limit text f
IsRefusedFor (Normal conversion) text f = FaultIn (language_of conversion) nesting_limit text f
IsRefusedFor (Fixed language fixes) text f = IsLeft language fixes text f

-- The error is the fault that a text is refused for, or says that memory ran out.
abbrev pub IsRefusal : Layout → Text → ParseError → Type 0
IsRefusal (Least conversion) text e =
    IsAssignedIn (language_of conversion) nesting_limit text e
IsRefusal (Normal conversion) text e =
    IsAssignedIn (language_of conversion) nesting_limit text e
IsRefusal (Fixed language fixes) text e = IsLeftOf language fixes text e
