-- Pieces that differ only in the case of letters in heads.
use Rattle.std.specs.Prelude.{◌≡◌, List, [], ◌∷◌, map}
use Rattle.timefd_lang_component.specs.Tree.{Text}
use Rattle.timefd_language.specs.Bytes.{lowered}
use Rattle.timefd_language.specs.Head.{Modifier, Head}
use Rattle.timefd_language.specs.Grammar.{Pieces, no_pieces, run, escape, closing, bracket}

abbrev pub SameButCase : Text → Text → Type 0
SameButCase a b = map lowered a ≡ map lowered b

pub record RecasedModifier (m n : Modifier) : Type 0 where
  pub white : m.white ≡ n.white
  pub key : SameButCase m.key n.key
  pub value : SameButCase m.value n.value

abbrev pub RecasedModifiers : List Modifier → List Modifier → Type 0
RecasedModifiers [] ns = ns ≡ []
RecasedModifiers (m ∷ ms) ns = (n : Modifier) × (rest : List Modifier) × (ns ≡ n ∷ rest)
    × RecasedModifier m n × RecasedModifiers ms rest

pub record RecasedHead (g h : Head) : Type 0 where
  pub white : g.white ≡ h.white
  pub name : SameButCase g.name h.name
  pub modifiers : RecasedModifiers g.modifiers h.modifiers

abbrev pub Recased : Pieces → Pieces → Type 0
Recased no_pieces qs = qs ≡ no_pieces
Recased (run bytes rest) qs = (more : Pieces) × (qs ≡ run bytes more) × Recased rest more
Recased (escape a b rest) qs = (more : Pieces) × (qs ≡ escape a b more) × Recased rest more
Recased (closing rest) qs = (more : Pieces) × (qs ≡ closing more) × Recased rest more
Recased (bracket h ns white tree rest) qs =
    (g : Head) × (more : Pieces) × (qs ≡ bracket g ns white tree more) × RecasedHead h g
    × Recased rest more
