-- The values of the objects about formats of other languages, and about texts whose description is looked for.
use Rattle.std.specs.Prelude.{ℕ, Bool, true, false, List, codes, map, string_bytes, IsUtf8}
use Rattle.json.specs.Json.{Json, boolean, array, object, Members, no_members, member}
use Rattle.json.specs.Value.{items_of}
use Rattle.timefd_parse.specs.Tree.{Text}
use Rattle.timefd_lang_dialect.specs.Reasons as reasons
use Rattle.timefd_lang_dialect.specs.TrapWords as words
use Rattle.timefd_lang_dialect.specs.declared.error.RefusedPart.{RefusedPart}
use Rattle.timefd_lang_dialect.specs.declared.limits.Limits.{Limits}
use Rattle.timefd_lang_dialect.specs.declared.reading.Converted.{Converted}
use Rattle.timefd_lang_dialect.specs.declared.trapping.Found.{Found}
use Rattle.timefd_description.specs.declared.guessing.guessing.Guess.{Guess}
use Rattle.timefd_web.specs.JsonLaws.Logs.{All}
use Rattle.timefd_web.specs.JsonLaws.Meaning.{IsJson}
use Rattle.timefd_web.specs.JsonLaws.Objects.{text_member, number_member, IsNumber64}
use Rattle.timefd_web.specs.Conversions.{converted_object, format_object, lacking_object, merged_object, refused_object}
use Rattle.timefd_web.specs.Guesses.{guesses_object}

abbrev pub truth_member : Text → Bool → Members → Members
truth_member key b others = member key (boolean b) others

abbrev pub limit_members : Limits → Members → Members
limit_members l others =
    number_member (codes "first_year") l.first_year
    (truth_member (codes "whole_minutes") l.whole_minutes others)

abbrev pub list_member : Text → List Json → Members → Members
list_member key values others = member key (array (items_of values)) others

abbrev pub trap_value : Found → Json
trap_value f =
    object (text_member (codes "trap") (words.name f.trap)
    (text_member (codes "message") (words.sentence f.trap)
    (text_member (codes "help") (words.cure f.trap) (number_member (codes "start") f.start
    (number_member (codes "end") f.end no_members)))))

abbrev pub converted_value : Converted → List Json → Json
converted_value c traps =
    object (truth_member (codes "converted") true
    (text_member (codes "version_3") (string_bytes c.text) (limit_members c.limits
    (list_member (codes "traps") traps no_members))))

abbrev pub refused_value : RefusedPart → List Json → Json
refused_value r traps =
    object (truth_member (codes "converted") false
    (text_member (codes "reason") (reasons.name r.reason)
    (text_member (codes "message") (reasons.sentence r.reason)
    (text_member (codes "help") (reasons.cure r.reason) (number_member (codes "start") r.index
    (list_member (codes "traps") traps no_members))))))

abbrev pub format_value : Converted → Json
format_value c =
    object (truth_member (codes "converted") true
    (text_member (codes "format") (string_bytes c.text) (limit_members c.limits no_members)))

abbrev pub lacking_value : ℕ → Json
lacking_value index =
    object (truth_member (codes "converted") false
    (text_member (codes "message") (codes "no directive writes this component")
    (number_member (codes "start") index no_members)))

abbrev pub merged_value : Json
merged_value =
    object (truth_member (codes "converted") false
    (text_member (codes "message") (codes "parts side by side would mean something else") no_members))

abbrev pub guess_value : Guess → Json
guess_value g =
    object (text_member (codes "description") g.description.now
    (number_member (codes "undecided") g.undecided no_members))

abbrev pub guesses_value : List Json → ℕ → Json
guesses_value guesses count =
    object (list_member (codes "guesses") guesses (number_member (codes "texts") count no_members))

-- What is written of these is UTF-8, and each number is one of 64 bits.

abbrev pub IsProperTrap : Found → Type 0
IsProperTrap f =
    IsUtf8 (words.name f.trap) × IsUtf8 (words.sentence f.trap) × IsUtf8 (words.cure f.trap)
    × IsNumber64 f.start × IsNumber64 f.end

abbrev pub IsProperText : Converted → Type 0
IsProperText c = IsUtf8 (string_bytes c.text) × IsNumber64 c.limits.first_year

abbrev pub IsProperRefusal : RefusedPart → Type 0
IsProperRefusal r =
    IsUtf8 (reasons.name r.reason) × IsUtf8 (reasons.sentence r.reason)
    × IsUtf8 (reasons.cure r.reason) × IsNumber64 r.index

abbrev pub IsProperGuess : Guess → Type 0
IsProperGuess g = IsUtf8 g.description.now × IsNumber64 g.undecided

-- Each object is JSON, and has exactly its keys and values.
pub record ObjectsAreJson : Type 0 where
  pub converted : (c : Converted) (found : List Found) → IsProperText c → All IsProperTrap found
      → IsJson (converted_object c found) (converted_value c (map trap_value found))
  pub refused : (r : RefusedPart) (found : List Found) → IsProperRefusal r → All IsProperTrap found
      → IsJson (refused_object r found) (refused_value r (map trap_value found))
  pub format : (c : Converted) → IsProperText c → IsJson (format_object c) (format_value c)
  pub lacking : (index : ℕ) → IsNumber64 index → IsJson (lacking_object index) (lacking_value index)
  pub merged : IsJson merged_object merged_value
  pub guesses : (found : List Guess) (count : ℕ) → All IsProperGuess found → IsNumber64 count
      → IsJson (guesses_object found count) (guesses_value (map guess_value found) count)
