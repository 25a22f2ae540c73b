-- The line that answers a text.
use Rattle.std.specs.Prelude.{ℕ, ◌≡◌, List, [], ◌∷◌, ◌++◌, codes, IsUtf8}
use Rattle.std.specs.Fmt.{decimal}
use Rattle.timefd_parse.specs.Tree.{Text, Tree}
use Rattle.timefd_parse.specs.Faults.{Fault}
use Rattle.timefd_parse.specs.Sentences.{sentence}
use Rattle.timefd_parse.specs.DescriptionVersion.TheVariants.{One, Two, Three}
use Rattle.timefd_parse.specs.LanguageType.{Language}
use Rattle.timefd_parse.specs.LanguageType.TheVariants.{Version, Strftime}
use Rattle.timefd_parse.specs.Language.{SpellsIn, FaultIn, amount}
use Rattle.timefd.specs.declared.kind.Kind.{Kind}
use Rattle.timefd.specs.Kinds.{language_of}

abbrev pub newline : Text
newline = 10 ∷ []

abbrev pub items_line : ℕ → Text
items_line count = codes "ok items " ++ (decimal count ++ newline)

abbrev pub bytes_line : ℕ → Text
bytes_line count = codes "ok bytes " ++ (decimal count ++ newline)

-- the line for a text of the language with this many items, or in version 3 reserved bytes
abbrev pub amount_line : Language → ℕ → Text
amount_line (Version One) count = items_line count
amount_line (Version Two) count = items_line count
amount_line (Version Three) count = bytes_line count
amount_line Strftime count = items_line count

-- the line for a text that spells the list
abbrev pub ok_line : Language → List Tree → Text
ok_line language list = amount_line language (amount language list)

-- the line for a text with the fault
abbrev pub fault_line : Fault → Text
fault_line f = sentence f ++ newline

abbrev pub IsOkLine : Kind → ℕ → Text → Text → Type 0
IsOkLine kind limit text line =
    IsUtf8 text
    × ((list : List Tree) × SpellsIn (language_of kind) limit text list
    × (line ≡ ok_line (language_of kind) list))

abbrev pub IsFaultLine : Kind → ℕ → Text → Text → Type 0
IsFaultLine kind limit text line =
    IsUtf8 text × ((f : Fault) × FaultIn (language_of kind) limit text f × (line ≡ fault_line f))
