-- The answer to C about a text that is converted from one language to another.
use Rattle.std.specs.Prelude.{ℕ, ◌≡◌, ◌≢◌, ◌≤◌, ◌<◌, ◌*◌, ◌++◌, Option, Some, None, length, drop, IsUtf8}
use Rattle.timefd_lang_component.specs.Tree.{Text}
use Rattle.timefd_language.specs.Grammar.{nesting_limit}
use Rattle.timefd_language.specs.declared.description_version.DescriptionVersion.TheVariants.{One, Two}
use Rattle.timefd_language.specs.declared.description_version.Language.{Language}
use Rattle.timefd_language.specs.declared.description_version.Language.TheVariants.{Version}
use Rattle.timefd_lang_convert.specs.declared.conversion.Conversion.{Conversion}
use Rattle.timefd_lang_convert.specs.Conversions as conversions
use Rattle.timefd_lift.specs.Answers.{IsRewritten, HasItemsOf}
use Rattle.timefd_lift.specs.Modernized.{IsWrittenOf, KeepsItemsOf}
use Rattle.timefd_c.specs.declared.answer.TheConstants.{ACCEPTED, NO_CONVERSION, NO_MEMORY, UNKNOWN_KIND}
use Rattle.timefd_c.specs.declared.answer.TextAnswer.{TextAnswer}
use Rattle.timefd_c.specs.Answers.{IsAnswer, plain}

-- The bytes are a text, and `converted` is the text that it is converted to.
abbrev pub IsConverted : (Text → Text → Type 0) → Text → Text → Type 0
IsConverted IsOne bytes converted = IsUtf8 bytes × IsOne bytes converted

-- In the later version `converted` has the items that the bytes have in their own, and the value is its
-- length.
abbrev pub IsReportedOf : (Text → Text → Type 0) → Text → TextAnswer → Text → Type 0
IsReportedOf HasItems bytes answer converted =
    HasItems bytes converted × (answer.value ≡ length converted)

-- The answer says what the bytes, a text of the language, are converted to, or why they are not, and how
-- much of that is in the buffer, which held `before` and holds `after`. `IsOne` says which text it is, and
-- `HasItems` that it means the same.
pub record ConvertsBy (language : Language) (IsOne HasItems : Text → Text
    → Type 0) (bytes before after : Text) (answer : TextAnswer) : Type 0 where
  pub answers : IsAnswer (Some language) nesting_limit bytes Text (IsConverted IsOne bytes)
      (IsReportedOf HasItems bytes answer) answer.status answer.value
  -- The language exists, so there are four statuses.
  pub status : answer.status ≤ NO_MEMORY
  -- A buffer with room for the whole text begins with it, and keeps its other bytes.
  pub whole : answer.status ≡ ACCEPTED → answer.value ≤ length before
      → (converted : Text) → IsConverted IsOne bytes converted
      → (after ≡ converted ++ drop answer.value before) × (answer.written ≡ answer.value)
  -- Any other buffer is unchanged, and so is every buffer if there is no such text.
  pub too_short : answer.status ≡ ACCEPTED → length before < answer.value
      → (after ≡ before) × (answer.written ≡ 0)
  pub kept : answer.status ≢ ACCEPTED → (after ≡ before) × (answer.written ≡ 0)
  pub no_sentence : answer.sentence_len ≡ 0

-- Twice the length of the bytes is always enough room.
abbrev pub FitsTwice : Text → TextAnswer → Type 0
FitsTwice bytes answer = answer.status ≡ ACCEPTED → answer.value ≤ 2 * length bytes

-- From version 1 to version 2.
abbrev pub Converts : Text → Text → Text → TextAnswer → Type 0
Converts bytes before after answer =
    ConvertsBy (Version One) IsRewritten HasItemsOf bytes before after answer × FitsTwice bytes answer

-- From version 2 to version 3.
abbrev pub Modernizes : Text → Text → Text → TextAnswer → Type 0
Modernizes = ConvertsBy (Version Two) IsWrittenOf KeepsItemsOf

-- This much room is always enough, if a bound is known.
abbrev pub FitsRoom : Conversion → Text → TextAnswer → Type 0
FitsRoom conversion bytes answer =
    answer.status ≡ ACCEPTED → conversions.FitsIn conversion (length bytes) answer.value

-- By any conversion.
abbrev pub ConvertsTo : Conversion → Text → Text → Text → TextAnswer → Type 0
ConvertsTo conversion bytes before after answer =
    ConvertsBy (conversions.language_of conversion) (conversions.IsConversion conversion)
    (conversions.KeepsItems conversion) bytes before after answer
    × FitsRoom conversion bytes answer

-- The answer has this status and no value, and the buffer is unchanged.
abbrev pub IsSilent : ℕ → Text → Text → TextAnswer → Type 0
IsSilent status before after answer = (answer ≡ plain status 0) × (after ≡ before)

-- The conversion, if there is one; otherwise the answer says that there is none.
abbrev pub ConvertsWhere : Option Conversion → Text → Text → Text → TextAnswer → Type 0
ConvertsWhere (Some conversion) bytes before after answer =
    ConvertsTo conversion bytes before after answer
ConvertsWhere None bytes before after answer = IsSilent NO_CONVERSION before after answer

-- From one language to another, if both exist.
abbrev pub ConvertsBetween : Option Language → Option Language → Text → Text → Text → TextAnswer
    → Type 0
ConvertsBetween (Some from) (Some to) bytes before after answer =
    ConvertsWhere (conversions.conversion_between from to) bytes before after answer
ConvertsBetween (Some from) None bytes before after answer =
    IsSilent UNKNOWN_KIND before after answer
ConvertsBetween None to bytes before after answer = IsSilent UNKNOWN_KIND before after answer
