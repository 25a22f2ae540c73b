-- What a verdict says about bytes.
use Rattle.std.specs.Prelude.{ℕ, ◌≡◌, Option, None, List, IsSome, IsUtf8, ⊤}
use Rattle.timefd_lang_component.specs.Tree.{Text, Tree}
use Rattle.timefd_parse.specs.Faults.{Fault}
use Rattle.timefd_parse.specs.BorrowedFaults.{to_borrowed_fault}
use Rattle.timefd_language.specs.declared.description_version.Language.{Language}
use Rattle.timefd_c.specs.declared.verdict.TextVerdict.{TextVerdict}
use Rattle.timefd_c.specs.declared.verdict.TextVerdict.TheVariants.{Accepted, Refused, NotUtf8, NoMemory, UnknownKind}
use Rattle.timefd_c.specs.Languages.{SpellsIn, FaultIn, amount}

-- What the verdict says of the text in the language is true. Out of memory says nothing.
abbrev pub Says : Option Language → Text → TextVerdict → Type 0
Says language bytes (Accepted value) =
    IsUtf8 bytes
    × ((list : List Tree) × SpellsIn language bytes list × (value ≡ amount language list))
Says language bytes (Refused f) = IsUtf8 bytes × FaultIn language bytes (to_borrowed_fault f)
Says language bytes NotUtf8 = IsSome language × ¬ (IsUtf8 bytes)
Says language bytes NoMemory = ⊤
Says language bytes UnknownKind = language ≡ None

-- accepted with this count, or out of memory
abbrev pub Accepts : ℕ → TextVerdict → Type 0
Accepts count (Accepted value) = value ≡ count
Accepts count NoMemory = ⊤
Accepts count (Refused f) = ⊥
Accepts count NotUtf8 = ⊥
Accepts count UnknownKind = ⊥

-- refused because of this fault
abbrev pub Refuses : Fault → TextVerdict → Type 0
Refuses f (Refused g) = to_borrowed_fault g ≡ f
Refuses f NoMemory = ⊥
Refuses f (Accepted value) = ⊥
Refuses f NotUtf8 = ⊥
Refuses f UnknownKind = ⊥

abbrev pub IsAccepted : TextVerdict → Type 0
IsAccepted (Accepted value) = ⊤
IsAccepted (Refused f) = ⊥
IsAccepted NotUtf8 = ⊥
IsAccepted NoMemory = ⊥
IsAccepted UnknownKind = ⊥
