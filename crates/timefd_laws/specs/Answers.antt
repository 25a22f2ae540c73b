-- The language, the limit and the text determine one answer.
use Rattle.std.specs.Prelude.{ℕ, ◌≡◌, ◌⊎◌, List}
use Rattle.timefd_lang_component.specs.Tree.{Text, Tree}
use Rattle.timefd_lang_fault.specs.Faults.{Fault}
use Rattle.timefd_language.specs.declared.description_version.Language.{Language}
use Rattle.timefd_parse.specs.Language.{SpellsIn, FaultIn}

pub record HasOneAnswerIn (language : Language) (limit : ℕ) (text : Text) : Type 0 where
  pub some : ((list : List Tree) × SpellsIn language limit text list)
      ⊎ ((f : Fault) × FaultIn language limit text f)
  pub one_list : (a b : List Tree) → SpellsIn language limit text a
      → SpellsIn language limit text b → a ≡ b
  pub one_fault : (f g : Fault) → FaultIn language limit text f → FaultIn language limit text g
      → f ≡ g
  pub not_both : (a : List Tree) (f : Fault) → SpellsIn language limit text a
      → FaultIn language limit text f → ⊥

-- In each language, with each limit, a text either spells a list or has a fault, never both, and there is
-- only one such list or fault.
abbrev pub OneAnswerInEach : Type 0
OneAnswerInEach = (language : Language) (limit : ℕ) (text : Text)
    → HasOneAnswerIn language limit text
