-- The lines of nodes, one after another, and the numbers in them.
use Rattle.std.proofs.Common.{ℕ, ◌≡◌, ◌∙◌, List, [], ◌∷◌, ◌++◌, append_assoc, append-nil, codes, refl, sym, ap, subst}
use Rattle.std.specs.Fmt.{char_count, digits, padded_integral}
use lib.Utf8.{encode}
use Rattle.timefd_lang_component.specs.Tree.{Text}
use Rattle.timefd_lint_explain.specs.Lines.{AreLines, IsLine, in_columns}
use Rattle.timefd_lint_explain.specs.declared.node.ShownNode.{ShownNode}

-- What is appended, followed by the lines of the nodes that are left, makes the lines of all nodes.
pub record LeavesLines (text : Text) (nodes : List ShownNode) (was : Text) (rest : List ShownNode) (now : Text) : Type 0 where
  pub whole : (left : Text) → AreLines text rest left
      → (all : Text) × AreLines text nodes all × (was ++ all ≡ now ++ left)

pub none_yet : (text : Text) (nodes : List ShownNode) (was : Text) → LeavesLines text nodes was nodes was
none_yet text nodes was = record { whole = λ left h. (left, h, refl) }

pub one_more : (text : Text) (nodes rest more : List ShownNode) (n : ShownNode) (was now new shown : Text)
    → LeavesLines text nodes was rest now → rest ≡ n ∷ more → IsLine text n shown → new ≡ now ++ shown
    → LeavesLines text nodes was more new
one_more text nodes rest more n was now new shown keep split is e = record {
  whole = λ left h.
      let k = keep.whole (shown ++ left)
      (subst (λ (it : List ShownNode). AreLines text it (shown ++ left)) (sym split) (shown, left, is, h, refl)) in
      (k.0, k.1, k.2 ∙ sym (append_assoc now shown left) ∙ ap (λ (x : Text). x ++ left) (sym e));
}

pub all_shown : (text : Text) (nodes rest : List ShownNode) (was now : Text) → LeavesLines text nodes was rest now
    → rest ≡ [] → (all : Text) × AreLines text nodes all × (now ≡ was ++ all)
all_shown text nodes rest was now keep none =
    let k = keep.whole [] (subst (λ (it : List ShownNode). AreLines text it []) (sym none) refl) in
    (k.0, k.1, sym (append-nil now) ∙ sym k.2)

-- A number, and the two spaces after it.
abbrev pub spaced : ℕ → Text
spaced n = in_columns n ++ codes "  "

pub of_digit : (spaced 0 ≡ codes "    0  ")
    × (spaced 1 ≡ codes "    1  ")
    × (spaced 2 ≡ codes "    2  ")
    × (spaced 3 ≡ codes "    3  ")
    × (spaced 4 ≡ codes "    4  ")
    × (spaced 5 ≡ codes "    5  ")
    × (spaced 6 ≡ codes "    6  ")
    × (spaced 7 ≡ codes "    7  ")
    × (spaced 8 ≡ codes "    8  ")
    × (spaced 9 ≡ codes "    9  ")
unfolding digits padded_integral char_count encode
of_digit = (refl, refl, refl, refl, refl, refl, refl, refl, refl, refl)
