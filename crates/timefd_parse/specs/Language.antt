-- The languages, and what a text means in each.
use Rattle.std.specs.Prelude.{ℕ, ◌≡◌, Bool, true, false, [], List, length, IfOk, IsFalse, IsOk, MatchResult, Result, ⊤}
use Rattle.std.specs.Result.{IfErr}
use Rattle.timefd_lang_fault.specs.declared.borrowed_parse_error.BorrowedParseError.{BorrowedParseError}
use Rattle.timefd_lang_fault.specs.BorrowedFaults.{IsBorrowed, IsBorrowedOf, IsMemory, IsRefusal}
use Rattle.timefd_language.specs.Bytes.{is_version_three}
use Rattle.timefd_language.specs.declared.description_version.DescriptionVersion.{DescriptionVersion}
use Rattle.timefd_lang_component.specs.Tree.{Text, Tree, pack}
use Rattle.timefd_lang_fault.specs.Faults.{Fault, fault_of}
use Rattle.timefd_lang_component.specs.Reserved.{reserve}
use Rattle.timefd_language.specs.declared.description_version.DescriptionVersion.TheVariants.{One, Two, Three}
use Rattle.timefd_language.specs.declared.description_version.Language.{Language}
use Rattle.timefd_language.specs.declared.description_version.Language.TheVariants.{Version, Strftime}
use Rattle.timefd_lang_fault.specs.declared.borrowed_parse_error.ParseError.{ParseError}
use Rattle.timefd_lang_fault.specs.declared.borrowed_parse_error.ParseError.TheVariants.{Invalid, Memory}
use Rattle.timefd_language.specs.Grammar.{Spells}
use Rattle.timefd_language.specs.Spans.{HasSpan}
use Rattle.timefd_language.specs.Broken.{FaultOf}
use Rattle.timefd_language.specs.Strftime.{SpellsStrftime, StrftimeFaultOf}

-- The text spells the list in the language, with descriptions nested at most this deep. Strftime
-- nests none.
abbrev pub SpellsIn : Language → ℕ → Text → List Tree → Type 0
SpellsIn (Version v) limit text list = Spells v limit 0 text list
SpellsIn Strftime limit text list = SpellsStrftime text list

-- The rules of the language assign the fault to the text.
abbrev pub FaultIn : Language → ℕ → Text → Fault → Type 0
FaultIn (Version v) limit text f = FaultOf v limit text f
FaultIn Strftime limit text f = StrftimeFaultOf text f

-- how many items a text that spells the list has, or in version 3 how many bytes it reserves
abbrev pub amount : Language → List Tree → ℕ
amount (Version One) list = length list
amount (Version Two) list = length list
amount (Version Three) list = reserve (pack list)
amount Strftime list = length list

-- whether a reader that counts builds anything: the nodes of version 3
abbrev pub takes_memory : Language → Bool
takes_memory (Version One) = false
takes_memory (Version Two) = false
takes_memory (Version Three) = true
takes_memory Strftime = false

-- A text of the language was read: the answer is what the list that it spells is to the reader, or its
-- fault, or that memory ran out. Only a text without a fault gets the last answer, and the empty text
-- never.
pub record IsRead {A : Type 0} (language : Language) (limit : ℕ) (text : Text)
    (is : List Tree → A → Type 0) (r : Result A BorrowedParseError) : Type 0 where
  pub found : IfOk r (λ x. (list : List Tree) × SpellsIn language limit text list × is list x)
  pub fault : IfErr r (IsBorrowedOf (λ f. FaultIn language limit text f))
  pub spelled : (list : List Tree) → SpellsIn language limit text list
      → MatchResult r (is list) IsMemory
  pub refused : (f : Fault) → FaultIn language limit text f
      → MatchResult r (λ _. ⊥) (IsBorrowed f)
  pub span : IfErr r (HasSpan language text)
  pub empty : text ≡ [] → IsOk r

-- The answer is how much the text holds.
pub record IsAmount (language : Language) (limit : ℕ) (text : Text) (r : Result ℕ BorrowedParseError)
    : Type 0 where
  pub read : IsRead language limit text (λ list n. n ≡ amount language list) r
  -- Versions 1 and 2 and strftime take no memory.
  pub memory : IsFalse (takes_memory language) → IfErr r IsRefusal

-- a fault that the rules of the language assign to the text, or out of memory
abbrev pub IsAssignedIn : Language → ℕ → Text → ParseError → Type 0
IsAssignedIn language limit text (Invalid f) = FaultIn language limit text (fault_of f)
IsAssignedIn language limit text (Memory e) = ⊤
