-- The answers for a text that is read as nodes.
use Rattle.std.specs.Prelude.{◌≡◌, ℕ, [], List, IfOk, IsOk, MatchResult, Result}
use Rattle.std.specs.Result.{IfErr}
use Rattle.timefd_lang_fault.specs.declared.borrowed_parse_error.BorrowedParseError.{BorrowedParseError}
use Rattle.timefd_lang_fault.specs.BorrowedFaults.{IsBorrowed, IsBorrowedOf, IsMemory}
use Rattle.timefd_parse.specs.Tree.{Text, Tree, pack}
use Rattle.timefd_lang_fault.specs.Faults.{Fault}
use Rattle.timefd_items.specs.Description.{description_tree}
use Rattle.timefd_items.specs.declared.format_description_v3.FormatDescriptionV3.{FormatDescriptionV3}
use Rattle.timefd_parse.specs.Language.{FaultIn, SpellsIn}
use Rattle.timefd_language.specs.declared.description_version.Language.{Language}

-- the nodes are these items as one tree
abbrev pub AreNodes : List Tree → FormatDescriptionV3 → Type 0
AreNodes list d = description_tree d ≡ pack list

-- An accepted text spells what was read, with descriptions nested at most `limit` deep, and a refused text is
-- refused for the fault that the rules assign. A text that spells items is accepted, unless memory runs out,
-- and a text with a fault is refused for it.
pub record IsParsed (language : Language) (limit : ℕ) (text : Text)
    (r : Result FormatDescriptionV3 BorrowedParseError) : Type 0 where
  pub found : IfOk r (λ d. (list : List Tree) × SpellsIn language limit text list
      × AreNodes list d)
  pub fault : IfErr r (IsBorrowedOf (FaultIn language limit text))
  pub spelled : (list : List Tree) → SpellsIn language limit text list
      → MatchResult r (AreNodes list) IsMemory
  pub refused : (f : Fault) → FaultIn language limit text f
      → MatchResult r (λ _. ⊥) (IsBorrowed f)
  pub empty : text ≡ [] → IsOk r
