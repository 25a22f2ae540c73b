-- Descriptions that texts are read by, and what is reported about them.
use Rattle.std.specs.Prelude.{ℕ, ◌≡◌, ◌==◌, Bool, true, false, Option, Some, None, codes, decimal, ◌++◌, if◌then◌else◌, string_bytes, ⊤}
use Rattle.std.specs.declared.alloc.Global.{Global}
use Rattle.std.specs.declared.string.String.{String}
use Rattle.timefd_lang_component.specs.Tree.{Text}
use Rattle.timefd_lang_dialect.specs.ToRead.{IsToRead, IsUnreadFor}
use Rattle.timefd_lang_dialect.specs.declared.dialect.Dialect.{Dialect}
use Rattle.timefd_lang_dialect.specs.declared.error.DialectError.{DialectError}
use Rattle.timefd_lang_dialect.specs.declared.limits.Limits.{Limits}
use Rattle.timefd_format.specs.declared.converted.Described.{Described}
use Rattle.timefd_format.specs.declared.converted.Described.TheVariants.{Own, Converted}
use Rattle.timefd_format.specs.declared.language.Wording.{Wording}
use Rattle.timefd_format.specs.declared.language.Wording.TheVariants as wordings

-- a language of `time` stays as it is, and a format of another is converted to read what it writes
abbrev pub IsDescribedToRead : Wording → Text → Described → Type 0
IsDescribedToRead wording text (Own language own) =
    (wording ≡ wordings.Own language) × (own.now ≡ text)
IsDescribedToRead wording text (Converted converted) =
    (dialect : Dialect) × (wording ≡ wordings.Other dialect) × IsToRead dialect text converted

-- the refusal of a format of another language
abbrev pub IsUnreadIn : Wording → Text → DialectError → Type 0
IsUnreadIn wording text e =
    (dialect : Dialect) × (wording ≡ wordings.Other dialect) × IsUnreadFor dialect text e

-- the sentence for texts that are read from this year on
abbrev pub from_year : ℕ → Bool → Text
from_year year true =
    codes "texts of the format are read from the year " ++ (decimal year
    ++ codes " on, where their offset has whole minutes")
from_year year false =
    codes "texts of the format are read from the year " ++ (decimal year ++ codes " on")

abbrev pub of_all_years : Bool → Option Text
of_all_years true = Some (codes "texts of the format are read where their offset has whole minutes")
of_all_years false = None

-- the sentence on which texts are read
abbrev pub reading_limits_sentence : Limits → Option Text
reading_limits_sentence limits =
    if limits.first_year == 0 then of_all_years limits.whole_minutes
    else Some (from_year limits.first_year limits.whole_minutes)

abbrev pub IsReported : Option Text → Option (String Global) → Type 0
IsReported None None = ⊤
IsReported None (Some text) = ⊥
IsReported (Some reported) None = ⊥
IsReported (Some reported) (Some text) = string_bytes text ≡ reported
