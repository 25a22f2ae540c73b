-- Pieces of version 3 that spell the printed text of leaves.
use Rattle.std.proofs.Common.{ℕ, ◌≡◌, cond, not, Bool, true, false, List, [], ◌∷◌, ◌++◌, refl, sym, ap, ◌∙◌, append_assoc, append-nil}
use Rattle.timefd_lang_component.specs.declared.component.Component.{Component}
use Rattle.timefd_lang_component.specs.Modern.{modern, IsModern, AreModern}
use Rattle.timefd_lang_component.specs.Tree.{Text, Tree, component, literal, compound, optional, first, Trees, no_trees, more_trees, trees, joined, before_joined}
use Rattle.timefd_lang_convert.specs.Flat.{flat, flat_all}
use Rattle.timefd_lang_convert.specs.Laws.{SpellsFlat}
use Rattle.timefd_lang_convert.specs.Leaves.{IsLeaf, AreLeaves, IsShallow, AreShallow}
use Rattle.timefd_language.specs.declared.description_version.DescriptionVersion.TheVariants.{Three}
use Rattle.timefd_language.specs.Bytes.{backslash, is_special, is_run_byte, OneOrMore}
use Rattle.timefd_language.specs.Grammar.{Pieces, no_pieces, escape, spelling, items, ArePieces}
use Rattle.timefd_language.proofs.Join.{join, join-spelling, join-pieces, join-joined, with_run, with_run-spelling, with_run-pieces, with_run-joined, literals_joined}
use Rattle.timefd_lift.specs.Written.{component_text}
use Rattle.timefd_lift.proofs.Rewritten.{components_read_law}
use Rattle.timefd_lang_convert.specs.Printing.Printed.{escaped, printed, printed_all}

-- pieces that spell the text, and are the list once neighbouring literals are joined
record Reads (limit : ℕ) (text : Text) (list : List Tree) (ps : Pieces) : Type 0 where
  are : ArePieces Three limit 0 ps
  spelled : spelling ps ≡ text
  same : joined (items ps) ≡ joined list

abbrev Reading : ℕ → Text → List Tree → Type 0
Reading limit text list = (ps : Pieces) × Reads limit text list ps

-- the same text and list, grouped differently
regrouped : (limit : ℕ) (text other : Text) (list same : List Tree) → text ≡ other
    → joined list ≡ joined same → Reading limit text list → Reading limit other same
regrouped limit text other list same e is r = (
  r.0,
  record { are = r.1.are; spelled = r.1.spelled ∙ e; same = r.1.same ∙ is },
)

-- Components.

component_front : (limit : ℕ) (c : Component) (text : Text) (list : List Tree)
    → IsLeaf (component c) → modern c ≡ c → Reading limit text list
    → Reading limit (component_text (modern c) ++ text) (component c ∷ list)
component_front limit c text list counted current r =
    let s = components_read_law limit c counted in (
      join s.0 r.0,
      record {
        are = join-pieces Three limit 0 s.0 r.0 s.1 r.1.are;
        spelled = join-spelling s.0 r.0 ∙ ap (λ x. x ++ spelling r.0) (sym s.2)
            ∙ ap (λ x. component_text (modern c) ++ x) r.1.spelled;
        same = join-joined s.0 r.0 ∙ ap (λ x. joined (x ++ items r.0)) (sym s.3)
            ∙ ap (λ d. joined (component d ∷ items r.0)) current
            ∙ ap (before_joined (component c)) r.1.same;
      },
    )

-- Literals, one byte after another.

run_byte : (b : ℕ) → is_special b ≡ false → OneOrMore (is_run_byte Three) (b ∷ [])
run_byte b e = rw e refl

byte_front : (limit b : ℕ) (text : Text) (list : List Tree) → Reading limit text list
    → Reading limit (escaped (b ∷ []) ++ text) (literal (b ∷ []) ∷ list)
byte_front limit b text list r = by (is_special b) refl
  where
    by : (t : Bool) → is_special b ≡ t
        → Reading limit (cond t (backslash ∷ b ∷ []) (b ∷ []) ++ text) (literal (b ∷ []) ∷ list)
    by true e = (
      escape backslash b r.0,
      record {
        are = ((refl, e), r.1.are);
        spelled = ap (λ x. backslash ∷ b ∷ x) r.1.spelled;
        same = ap (before_joined (literal (b ∷ []))) r.1.same;
      },
    )
    by false e = (
      with_run (b ∷ []) r.0,
      record {
        are = with_run-pieces Three limit 0 (b ∷ []) r.0 (run_byte b e) r.1.are;
        spelled = with_run-spelling (b ∷ []) r.0 ∙ ap (λ x. b ∷ x) r.1.spelled;
        same = with_run-joined (b ∷ []) r.0 ∙ ap (before_joined (literal (b ∷ []))) r.1.same;
      },
    )

one_more_byte : (b : ℕ) (bytes text : Text)
    → escaped (b ∷ []) ++ (escaped bytes ++ text) ≡ escaped (b ∷ bytes) ++ text
one_more_byte b bytes text = by (is_special b)
  where
    by : (t : Bool) → cond t (backslash ∷ b ∷ []) (b ∷ []) ++ (escaped bytes ++ text)
        ≡ cond t (backslash ∷ b ∷ escaped bytes) (b ∷ escaped bytes) ++ text
    by true = refl
    by false = refl

literal_front : (limit : ℕ) (bytes text : Text) (list : List Tree) → IsLeaf (literal bytes)
    → Reading limit text list → Reading limit (escaped bytes ++ text) (literal bytes ∷ list)
literal_front limit [] text list some r = absurd some
literal_front limit (b ∷ []) text list some r = byte_front limit b text list r
literal_front limit (b ∷ c ∷ bytes) text list some r =
    regrouped limit _ _ (literal (b ∷ []) ∷ literal (c ∷ bytes) ∷ list)
    (literal (b ∷ c ∷ bytes) ∷ list) (one_more_byte b (c ∷ bytes) text)
    (sym (literals_joined (b ∷ []) (c ∷ bytes) (joined list)))
    (byte_front limit b (escaped (c ∷ bytes) ++ text) (literal (c ∷ bytes) ∷ list)
    (literal_front limit (c ∷ bytes) text list tt r))

-- Trees.

leaf_front : (limit : ℕ) (t : Tree) (text : Text) (list : List Tree) → IsLeaf t → IsModern t
    → Reading limit text list → Reading limit (printed t ++ text) (flat t ++ list)
leaf_front limit (component c) text list is current r =
    component_front limit c text list is current r
leaf_front limit (literal bytes) text list is current r =
    literal_front limit bytes text list is r
leaf_front limit (compound ts) text list is current r = absurd is
leaf_front limit (optional format t) text list is current r = absurd is
leaf_front limit (first ts) text list is current r = absurd is

leaves_front : (limit : ℕ) (ts : Trees) (text : Text) (list : List Tree) → AreLeaves ts
    → AreModern ts → Reading limit text list
    → Reading limit (printed_all ts ++ text) (flat_all ts ++ list)
leaves_front limit no_trees text list are current r = r
leaves_front limit (more_trees t ts) text list are current r =
    regrouped limit _ _ (flat t ++ (flat_all ts ++ list)) _
    (sym (append_assoc (printed t) (printed_all ts) text))
    (ap joined (sym (append_assoc (flat t) (flat_all ts) list)))
    (leaf_front limit t (printed_all ts ++ text) (flat_all ts ++ list) are.0 current.0
    (leaves_front limit ts text list are.1 current.1 r))

tree_front : (limit : ℕ) (t : Tree) (text : Text) (list : List Tree) → IsShallow t → IsModern t
    → Reading limit text list → Reading limit (printed t ++ text) (flat t ++ list)
tree_front limit (component c) text list is current r =
    leaf_front limit (component c) text list is current r
tree_front limit (literal bytes) text list is current r =
    leaf_front limit (literal bytes) text list is current r
tree_front limit (compound ts) text list is current r =
    leaves_front limit ts text list is current r
tree_front limit (optional format t) text list is current r = absurd is
tree_front limit (first ts) text list is current r = absurd is

trees_read : (limit : ℕ) (ts : Trees) → AreShallow ts → AreModern ts
    → Reading limit (printed_all ts) (flat_all ts)
trees_read limit no_trees are current =
    (no_pieces, record { are = tt; spelled = refl; same = refl })
trees_read limit (more_trees t ts) are current =
    tree_front limit t (printed_all ts) (flat_all ts) are.0 current.0
    (trees_read limit ts are.1 current.1)

pub spells_flat : (limit : ℕ) (list : List Tree) → AreShallow (trees list) → AreModern (trees list)
    → SpellsFlat limit (printed_all (trees list)) list
spells_flat limit list are current =
    let r = trees_read limit (trees list) are current in
    (items r.0, (r.0, r.1.are, sym r.1.spelled, refl), r.1.same)
