-- Descriptions in a language of `time`, and what is reported about formats that can't be converted.
use Rattle.std.specs.Prelude.{ℕ, ◌≡◌, ◌==◌, Bool, true, false, Option, Some, None, codes, decimal, ◌++◌, if◌then◌else◌, string_bytes}
use Rattle.timefd_lang_component.specs.Tree.{Text}
use Rattle.timefd_lang_dialect.specs.Answers.{IsConverted, IsRefusedFor}
use Rattle.timefd_lang_dialect.specs.Limits.{all_limits}
use Rattle.timefd_lang_dialect.specs.Reasons.{sentence, cure}
use Rattle.timefd_lang_dialect.specs.declared.dialect.Dialect.{Dialect}
use Rattle.timefd_lang_dialect.specs.declared.error.DialectError.{DialectError}
use Rattle.timefd_lang_dialect.specs.declared.error.RefusedPart.{RefusedPart}
use Rattle.timefd_lang_dialect.specs.declared.reason.Reason.{Reason}
use Rattle.timefd_lang_dialect.specs.declared.limits.Limits.{Limits}
use Rattle.timefd_parse.specs.DescriptionVersion.TheVariants.{Three}
use Rattle.timefd_parse.specs.LanguageType.{Language}
use Rattle.timefd_parse.specs.LanguageType.TheVariants as languages
use Rattle.timefd_format.specs.declared.converted.Described.{Described}
use Rattle.timefd_format.specs.declared.converted.Described.TheVariants.{Own, Converted}
use Rattle.timefd_format.specs.declared.language.Wording.{Wording}
use Rattle.timefd_format.specs.declared.language.Wording.TheVariants as wordings

abbrev pub language_of : Described → Language
language_of (Own language text) = language
language_of (Converted converted) = languages.Version Three

abbrev pub text_of : Described → Text
text_of (Own language text) = text.now
text_of (Converted converted) = string_bytes converted.text

abbrev pub limits_of : Described → Limits
limits_of (Own language text) = all_limits
limits_of (Converted converted) = converted.limits

-- a language of `time` stays as it is, and a format of another is converted
abbrev pub IsDescribedFrom : Wording → Text → Described → Type 0
IsDescribedFrom wording text (Own language own) =
    (wording ≡ wordings.Own language) × (own.now ≡ text)
IsDescribedFrom wording text (Converted converted) =
    (dialect : Dialect) × (wording ≡ wordings.Other dialect) × IsConverted dialect text converted

-- the refusal of a format of another language
abbrev pub IsRefusedIn : Wording → Text → DialectError → Type 0
IsRefusedIn wording text e =
    (dialect : Dialect) × (wording ≡ wordings.Other dialect) × IsRefusedFor dialect text e

-- the sentence on a reason, and what to do
abbrev pub why : Reason → Text
why reason = sentence reason ++ (codes ". " ++ cure reason)

-- where a format is refused
abbrev pub at_index : ℕ → Text
at_index index = codes "at byte " ++ (decimal index ++ codes " of the format: ")

abbrev pub refused_sentence : RefusedPart → Text
refused_sentence refusal = at_index refusal.index ++ why refusal.reason

-- the sentence for moments from this year on
abbrev pub from_year : ℕ → Bool → Text
from_year year true =
    codes "the format writes this from the year " ++ (decimal year
    ++ codes " on, for offsets of whole minutes")
from_year year false = codes "the format writes this from the year " ++ (decimal year ++ codes " on")

abbrev pub of_all_years : Bool → Option Text
of_all_years true = Some (codes "the format writes this for offsets of whole minutes")
of_all_years false = None

-- the sentence on the moments for which a format writes the same
abbrev pub limits_sentence : Limits → Option Text
limits_sentence limits =
    if limits.first_year == 0 then of_all_years limits.whole_minutes
    else Some (from_year limits.first_year limits.whole_minutes)
