-- The languages that texts can be converted between, and what a text is converted to.
use Rattle.std.specs.Prelude.{ℕ, ◌≡◌, ◌≤◌, ◌*◌, [], Option, Some, None, Result, Ok, Err, IfOk, IsOk, MatchResult, length, string_bytes, ⊤}
use Rattle.std.specs.Result.{IfErr}
use Rattle.std.specs.declared.string.String.{String}
use Rattle.std.specs.declared.alloc.Global.{Global}
use Rattle.timefd_lang_fault.specs.Placed.{HasPlacedFault}
use Rattle.timefd_lang_component.specs.Tree.{Text}
use Rattle.timefd_lang_convert.specs.declared.conversion.Conversion.{Conversion}
use Rattle.timefd_lang_convert.specs.declared.conversion.Conversion.TheVariants.{OneToTwo, OneToThree, TwoToThree, ThreeToThree, StrftimeToThree}
use Rattle.timefd_lang_convert.specs.declared.converting.ConvertError.{ConvertError}
use Rattle.timefd_lang_convert.specs.declared.converting.ConvertError.TheVariants.{Unsupported, Unconverted}
use Rattle.timefd_lang_convert.specs.Answers.{HasItemsOver, HasStrftimeItems, IsNormalOf, IsPrintedOf, IsWrittenOver, KeepsTree}
use Rattle.timefd_lang_fault.specs.Faults.{Fault}
use Rattle.timefd_language.specs.declared.description_version.DescriptionVersion.TheVariants.{One, Two, Three}
use Rattle.timefd_lang_fault.specs.declared.borrowed_parse_error.ParseError.{ParseError}
use Rattle.timefd_language.specs.Grammar.{nesting_limit}
use Rattle.timefd_language.specs.Spans.{HasSpanWithin}
use Rattle.timefd_lang_fault.specs.Reported.{IsFaultOrMemory}
use Rattle.timefd_lift.specs.Answers.{HasItemsOf, IsRewritten, IsTextOrMemory}
use Rattle.timefd_lift.specs.Modernized.{IsWrittenOf, KeepsItemsOf}
use Rattle.timefd_language.specs.declared.description_version.Language.{Language}
use Rattle.timefd_language.specs.declared.description_version.Language.TheVariants.{Version, Strftime}
use Rattle.timefd_parse.specs.Language.{FaultIn, IsAssignedIn}

abbrev pub to_two : Language → Option Conversion
to_two (Version One) = Some OneToTwo
to_two (Version Two) = None
to_two (Version Three) = None
to_two Strftime = None

-- each language can be converted to version 3
abbrev pub to_three : Language → Conversion
to_three (Version One) = OneToThree
to_three (Version Two) = TwoToThree
to_three (Version Three) = ThreeToThree
to_three Strftime = StrftimeToThree

-- the conversion from one language to another, if there is one
abbrev pub conversion_between : Language → Language → Option Conversion
conversion_between from (Version One) = None
conversion_between from (Version Two) = to_two from
conversion_between from (Version Three) = Some (to_three from)
conversion_between from Strftime = None

-- the language that is converted from
abbrev pub language_of : Conversion → Language
language_of OneToTwo = Version One
language_of OneToThree = Version One
language_of TwoToThree = Version Two
language_of ThreeToThree = Version Three
language_of StrftimeToThree = Strftime

-- The language spells the text, and this is what it is converted to.
abbrev pub IsConversion : Conversion → Text → Text → Type 0
IsConversion OneToTwo text answer = IsRewritten text answer
IsConversion OneToThree text answer = IsWrittenOver text answer
IsConversion TwoToThree text answer = IsWrittenOf text answer
IsConversion ThreeToThree text answer = IsNormalOf text answer
IsConversion StrftimeToThree text answer = IsPrintedOf text answer

-- The later version spells the result with the items of the text. For texts of version 1 and of
-- strftime, neighbouring literals are joined first; for texts of strftime, compounds are taken
-- apart too.
abbrev pub KeepsItems : Conversion → Text → Text → Type 0
KeepsItems OneToTwo text answer = HasItemsOf text answer
KeepsItems OneToThree text answer = HasItemsOver text answer
KeepsItems TwoToThree text answer = KeepsItemsOf text answer
KeepsItems ThreeToThree text answer = KeepsTree text answer
KeepsItems StrftimeToThree text answer = HasStrftimeItems text answer

-- The greatest length of the result for a text with this many bytes, if a bound is known.
abbrev pub FitsIn : Conversion → ℕ → ℕ → Type 0
FitsIn OneToTwo len answer = answer ≤ 2 * len
FitsIn OneToThree len answer = ⊤
FitsIn TwoToThree len answer = ⊤
FitsIn ThreeToThree len answer = ⊤
FitsIn StrftimeToThree len answer = answer ≤ 53 * len

-- What a call that converts the text returns: the one text that it is converted to, which has the
-- same items, unless memory runs out; or the fault of the text.
pub record Converts (conversion : Conversion) (text : Text) (r : Result (String Global) ParseError)
    : Type 0 where
  pub converted : IfOk r (λ answer. IsConversion conversion text (string_bytes answer))
  pub same_items : IfOk r (λ answer. KeepsItems conversion text (string_bytes answer))
  pub fault : IfErr r (IsAssignedIn (language_of conversion) nesting_limit text)
  pub described : (answer : Text) → IsConversion conversion text answer → IsTextOrMemory answer r
  pub refused : (f : Fault) → FaultIn (language_of conversion) nesting_limit text f
      → MatchResult r (λ _. ⊥) (IsFaultOrMemory f)
  pub position : IfErr r (HasPlacedFault text)
  pub span : IfErr r (HasSpanWithin (language_of conversion) text)
  pub within : IfOk r (λ answer. FitsIn conversion (length text) (length (string_bytes answer)))
  pub empty : text ≡ [] → IsOk r

-- What a call returns if there is a conversion; or the error that says that there is none.
abbrev pub ConvertsIf : Option Conversion → Text → Result (String Global) ConvertError → Type 0
ConvertsIf None text (Ok answer) = ⊥
ConvertsIf None text (Err Unsupported) = ⊤
ConvertsIf None text (Err (Unconverted e)) = ⊥
ConvertsIf (Some conversion) text (Ok answer) = Converts conversion text (Ok answer)
ConvertsIf (Some conversion) text (Err Unsupported) = ⊥
ConvertsIf (Some conversion) text (Err (Unconverted e)) = Converts conversion text (Err e)
