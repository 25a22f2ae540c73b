-- What is reported about formats of other languages.
use Rattle.std.specs.Prelude.{ℕ, ◌≡◌, ◌++◌, List, [], codes, Result, Ok, Err, string_bytes}
use Rattle.timefd_parse.specs.Tree.{Text}
use Rattle.timefd_lang_dialect.specs.Answers.{IsConverted, IsRefusedFor}
use Rattle.timefd_lang_dialect.specs.Back.{IsFormatOf, IsLackIn}
use Rattle.timefd_lang_dialect.specs.Items.{IsSpelledBy}
use Rattle.timefd_lang_dialect.specs.Reasons as reasons
use Rattle.timefd_lang_dialect.specs.Traps.{AreTraps}
use Rattle.timefd_lang_dialect.specs.TrapWords as words
use Rattle.timefd_lang_dialect.specs.declared.back.NoFormatError.{NoFormatError}
use Rattle.timefd_lang_dialect.specs.declared.back.NoFormatError.TheVariants as lacks
use Rattle.timefd_lang_dialect.specs.declared.dialect.Dialect.{Dialect}
use Rattle.timefd_lang_dialect.specs.declared.error.DialectError.{DialectError}
use Rattle.timefd_lang_dialect.specs.declared.error.DialectError.TheVariants as fails
use Rattle.timefd_lang_dialect.specs.declared.error.RefusedPart.{RefusedPart}
use Rattle.timefd_lang_dialect.specs.declared.limits.Limits.{Limits}
use Rattle.timefd_lang_dialect.specs.declared.reading.Converted.{Converted}
use Rattle.timefd_lang_dialect.specs.declared.reason.Reason.{Reason}
use Rattle.timefd_lang_dialect.specs.declared.trapping.Found.{Found}
use Rattle.timefd_lint_drawing.specs.Json.{text_field, number_field}
use Rattle.timefd_web.specs.Records.{listed, truth_field}

-- From which year on both write the same, and whether they do so of offsets of whole minutes alone.
abbrev pub limit_fields : Limits → Text
limit_fields l =
    number_field (codes ",\"first_year\":") l.first_year
    ++ truth_field (codes ",\"whole_minutes\":") l.whole_minutes

-- a trap: its name, what is reported about it, what to do about it, and the bytes of its directive
abbrev pub trap_object : Found → Text
trap_object f =
    [] ++ text_field (codes "{\"trap\":") (words.name f.trap)
    ++ text_field (codes ",\"message\":") (words.sentence f.trap)
    ++ text_field (codes ",\"help\":") (words.cure f.trap)
    ++ number_field (codes ",\"start\":") f.start ++ number_field (codes ",\"end\":") f.end
    ++ codes "}"

-- The objects: the text of version 3 with its limits and the traps of the format; and why the format has
-- no such text, with the byte index of the part at fault and the traps of the format.

abbrev pub converted_object : Converted → List Found → Text
converted_object c found =
    [] ++ text_field (codes "{\"converted\":true,\"version_3\":") (string_bytes c.text)
    ++ limit_fields c.limits ++ (codes ",\"traps\":" ++ listed trap_object found) ++ codes "}"

-- the name of a reason, its sentence, and what to do about it
abbrev pub reason_fields : Reason → Text
reason_fields reason =
    text_field (codes "{\"converted\":false,\"reason\":") (reasons.name reason)
    ++ text_field (codes ",\"message\":") (reasons.sentence reason)
    ++ text_field (codes ",\"help\":") (reasons.cure reason)

abbrev pub refused_object : RefusedPart → List Found → Text
refused_object r found =
    [] ++ reason_fields r.reason ++ number_field (codes ",\"start\":") r.index
    ++ (codes ",\"traps\":" ++ listed trap_object found) ++ codes "}"

-- The object reports the result of a conversion. No object reports that memory ran out.
abbrev pub IsConversionObject : Result Converted DialectError → List Found → Text → Type 0
IsConversionObject (Ok c) found object = object ≡ converted_object c found
IsConversionObject (Err (fails.Refused r)) found object = object ≡ refused_object r found
IsConversionObject (Err (fails.Memory e)) found object = ⊥

-- The result of a conversion is the text that the format means, with its items, or why it has none.
abbrev pub IsConversion : Dialect → Text → Result Converted DialectError → Type 0
IsConversion dialect format (Ok c) =
    IsConverted dialect format c × IsSpelledBy dialect format (string_bytes c.text)
IsConversion dialect format (Err e) = IsRefusedFor dialect format e

-- The object reports what the format is in version 3, or why it is nothing, and its traps.
pub record Converts (dialect : Dialect) (format object : Text) : Type 0 where
  pub answer : Result Converted DialectError
  pub found : List Found
  pub is_conversion : IsConversion dialect format answer
  pub are_traps : AreTraps dialect format found
  pub said : IsConversionObject answer found object

-- Descriptions of version 3 as formats.

-- The objects: the format with its limits; the byte index of the component that the language lacks; and
-- that the language would read the format otherwise.

abbrev pub format_object : Converted → Text
format_object c =
    [] ++ text_field (codes "{\"converted\":true,\"format\":") (string_bytes c.text)
    ++ limit_fields c.limits ++ codes "}"

abbrev pub lacking_object : ℕ → Text
lacking_object index =
    [] ++ text_field (codes "{\"converted\":false,\"message\":") (codes "no directive writes this component")
    ++ number_field (codes ",\"start\":") index ++ codes "}"

abbrev pub merged_object : Text
merged_object =
    [] ++ text_field (codes "{\"converted\":false,\"message\":")
    (codes "parts side by side would mean something else") ++ codes "}"

-- The object reports the format, or why there is none. No object reports that memory ran out.
abbrev pub IsFormatObject : Result Converted NoFormatError → Text → Type 0
IsFormatObject (Ok c) object = object ≡ format_object c
IsFormatObject (Err (lacks.Lacking index)) object = object ≡ lacking_object index
IsFormatObject (Err lacks.Merged) object = object ≡ merged_object
IsFormatObject (Err (lacks.Memory e)) object = ⊥

-- The format means just the description, with its items, or a component has no directive.
abbrev pub IsFormat : Dialect → Text → Result Converted NoFormatError → Type 0
IsFormat dialect description (Ok c) =
    IsFormatOf dialect description c × IsSpelledBy dialect (string_bytes c.text) description
IsFormat dialect description (Err e) = IsLackIn dialect description e

-- The object reports what the description is as a format, or why it is none.
pub record Formats (dialect : Dialect) (description object : Text) : Type 0 where
  pub answer : Result Converted NoFormatError
  pub is_format : IsFormat dialect description answer
  pub said : IsFormatObject answer object
