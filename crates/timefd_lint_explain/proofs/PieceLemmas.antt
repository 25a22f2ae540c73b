-- A piece, and what it holds, for each kind of piece.
use Rattle.std.proofs.Common.{ℕ, ◌≡◌, ◌+◌, Bool, List, [], ◌∷◌, ◌++◌, Result, Ok, Err, OnOk, refl, sym, subst, arith}
use Rattle.std.specs.Prelude.{⊤}
use Rattle.timefd_lang_component.specs.Tree.{Text, Tree, Trees, component, literal, compound, optional, first}
use Rattle.timefd_lang_component.specs.declared.component.Component.{Component}
use Rattle.timefd_language.specs.declared.description_version.DescriptionVersion.TheVariants.{Three}
use Rattle.timefd_language.specs.Grammar.{Spells, nesting_limit}
use Rattle.timefd_language.specs.Strftime.{SpellsStrftime}
use Rattle.timefd_parse.specs.Language.{SpellsIn}
use Rattle.timefd_language.specs.declared.description_version.Language.{Language}
use Rattle.timefd_language.specs.declared.description_version.Language.TheVariants.{Version, Strftime}
use Rattle.timefd_lint_explain.specs.declared.node.ShownNode.{ShownNode}
use Rattle.timefd_lint_explain.specs.declared.piece.What.TheVariants as what
use Rattle.timefd_lint_explain.specs.Inside.{Nests, held_parts}
use Rattle.timefd_lint_explain.specs.Parts.{Part, piece, parts, members, IsPiece, Adds, capped}
use Rattle.timefd_lint_explain.specs.Shown.{IsWhat}
use Rattle.timefd_lint_explain.proofs.InsideLemmas.{nesting_bracket, spelled_flat, strftime_flat}
use Rattle.timefd_lint_explain.proofs.PartLemmas.{adds_one, adds_both}

-- Only version 3 nests, and only strftime has compounds.

pub three : (language : Language) (text : Text) (t : Tree)
    → SpellsIn language nesting_limit text (t ∷ []) → Nests t
    → Spells Three nesting_limit 0 text (t ∷ [])
three (Version v) text t s n =
    subst (λ x. Spells x nesting_limit 0 text (t ∷ [])) (nesting_bracket v nesting_limit text t s n).0
    s
three Strftime text t s n = absurd (strftime_flat text t s n)

pub letter : (language : Language) (text : Text) (ts : Trees)
    → SpellsIn language nesting_limit text (compound ts ∷ []) → SpellsStrftime text (compound ts ∷ [])
letter (Version v) text ts s =
    absurd ((spelled_flat v nesting_limit text (compound ts ∷ []) s).0 tt)
letter Strftime text ts s = s

pub on_ok : {A E : Type 0} (r : Result A E) (P Q : Type 0) → (P → Q) → OnOk r P → OnOk r Q
on_ok (Ok x) P Q f p = f p
on_ok (Err e) P Q f p = tt

-- The nodes of a piece of this text, after its own node, for each kind of tree.
module _ {E : Type 0} (r : Result ⊤ E) (language : Language) (text : Text) (d depth inside : ℕ)
    (tree : Tree) (n : ShownNode) (old one new : List ShownNode) (is : depth ≡ capped d)
    (deeper : inside ≡ capped (depth + 1))
    (s : SpellsIn language nesting_limit text (tree ∷ [])) (pushed : one ≡ old ++ n ∷ [])
    (node_is : IsPiece d tree n) where
  -- After the node of this tree, these parts follow.
  after_node : (t : Tree) (ps : List Part) → parts d t ≡ piece d t ∷ ps → tree ≡ t
      → Adds ps one new → Adds (parts d tree) old new
  after_node t ps e w adds =
      subst (λ x. Adds (parts d x) old new) (sym w)
      (subst (λ x. Adds x old new) (sym e)
      (adds_both (piece d t ∷ []) ps old one new
      (adds_one (piece d t) n old one pushed (subst (λ x. IsPiece d x n) w node_is)) adds))

  nested_adds : (t : Tree) → parts d t ≡ piece d t ∷ held_parts (d + 1) t → Nests t → tree ≡ t
      → ((k : ℕ) (u : Tree) → inside ≡ capped k → Spells Three nesting_limit 0 text (u ∷ [])
      → Nests u → OnOk r (Adds (held_parts k u) one new))
      → OnOk r (Adds (parts d tree) old new)
  nested_adds t e nests w held =
      on_ok r _ _ (after_node t (held_parts (d + 1) t) e w)
      (held (d + 1) t (omega (arith, is, deeper))
      (three language text t (subst (λ x. SpellsIn language nesting_limit text (x ∷ [])) w s) nests)
      nests)

  pub optional_adds : (f : Bool) → IsWhat (what.Optional f) tree
      → ((k : ℕ) (u : Tree) → inside ≡ capped k → Spells Three nesting_limit 0 text (u ∷ [])
      → Nests u → OnOk r (Adds (held_parts k u) one new))
      → OnOk r (Adds (parts d tree) old new)
  optional_adds f w held = nested_adds (optional f w.0) refl tt w.1 held

  pub first_adds : IsWhat what.First tree
      → ((k : ℕ) (u : Tree) → inside ≡ capped k → Spells Three nesting_limit 0 text (u ∷ [])
      → Nests u → OnOk r (Adds (held_parts k u) one new))
      → OnOk r (Adds (parts d tree) old new)
  first_adds w held = nested_adds (first w.0) refl tt w.1 held

  pub several_adds : IsWhat what.Several tree
      → ((k : ℕ) (ts : Trees) → inside ≡ capped k → SpellsStrftime text (compound ts ∷ [])
      → OnOk r (Adds (members k ts) one new))
      → OnOk r (Adds (parts d tree) old new)
  several_adds w held =
      on_ok r _ _ (after_node (compound w.0) (members (d + 1) w.0) refl w.1)
      (held (d + 1) w.0 (omega (arith, is, deeper))
      (letter language text w.0
      (subst (λ x. SpellsIn language nesting_limit text (x ∷ [])) w.1 s)))

-- The node of a piece that holds nothing.
pub component_adds : (d : ℕ) (c : Component) (tree : Tree) (n : ShownNode) (old new : List ShownNode)
    → new ≡ old ++ n ∷ [] → IsPiece d tree n → IsWhat (what.Component c) tree
    → Adds (parts d tree) old new
component_adds d c tree n old new pushed is w =
    subst (λ x. Adds (parts d x) old new) (sym w)
    (adds_one (piece d (component c)) n old new pushed (subst (λ x. IsPiece d x n) w is))

pub literal_adds : (d : ℕ) (bytes : Text) (tree : Tree) (n : ShownNode) (old new : List ShownNode)
    → new ≡ old ++ n ∷ [] → IsPiece d tree n → tree ≡ literal bytes
    → Adds (parts d tree) old new
literal_adds d bytes tree n old new pushed is w =
    subst (λ x. Adds (parts d x) old new) (sym w)
    (adds_one (piece d (literal bytes)) n old new pushed (subst (λ x. IsPiece d x n) w is))
