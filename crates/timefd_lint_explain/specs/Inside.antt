-- What is in a bracket that holds descriptions.
use Rattle.std.specs.Prelude.{ℕ, ◌≡◌, [], ◌++◌, List, ⊤}
use Rattle.timefd_lang_component.specs.Tree.{Text, Tree, component, literal, compound, optional, first}
use Rattle.timefd_language.specs.Bytes.{is_word_byte, StopsBefore}
use Rattle.timefd_language.specs.Head.{Modifier, IsModifier, modifier_text}
use Rattle.timefd_lint_explain.specs.Parts.{Part, described, alternatives}

-- A head ends before this text: no modifier follows.
abbrev pub EndsHead : Text → Type 0
EndsHead after =
    StopsBefore is_word_byte after
    × ((m : Modifier) (rest : Text) → IsModifier m → after ≡ modifier_text m ++ rest → ⊥)

-- The tree holds descriptions.
abbrev pub Nests : Tree → Type 0
Nests (component c) = ⊥
Nests (literal bytes) = ⊥
Nests (compound ts) = ⊥
Nests (optional f t) = ⊤
Nests (first ts) = ⊤

-- The parts of the descriptions that the tree holds.
abbrev pub held_parts : ℕ → Tree → List Part
held_parts d (component c) = []
held_parts d (literal bytes) = []
held_parts d (compound ts) = []
held_parts d (optional f t) = described d t
held_parts d (first ts) = alternatives d ts
