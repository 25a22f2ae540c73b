-- Nodes that are appended for parts, one after another.
use Rattle.std.proofs.Common.{ℕ, ◌≡◌, ◌∙◌, ◌+◌, List, [], ◌∷◌, ◌++◌, string_bytes, refl, sym, ap, subst, append_assoc, append-nil}
use Rattle.timefd_lang_component.specs.Reserved.{reserve}
use Rattle.timefd_lang_component.specs.Tree.{Text, Tree, component, literal, compound, optional, first, trees, pack}
use Rattle.timefd_lang_node_list.specs.Nodes.{kept_bytes}
use Rattle.timefd_lint_explain.specs.declared.node.ShownNode.{ShownNode}
use Rattle.timefd_lint_explain.specs.declared.node.NodeKind.{NodeKind}
use Rattle.timefd_lint_explain.specs.declared.piece.What.{What}
use Rattle.timefd_lint_explain.specs.declared.piece.What.TheVariants as what
use Rattle.timefd_lint_explain.specs.Examples.{AreWordsOf, kind_in}
use Rattle.timefd_lint_explain.specs.Parts.{Part, piece, description, parts, all_parts, members, described, alternatives, IsReported, IsPiece, IsPart, AreParts, Adds, capped}
use Rattle.timefd_lint_explain.specs.Shown.{IsExampleOf, IsWhat}
use Rattle.timefd_lint_explain.proofs.InsideLemmas.{NoCompounds}

-- One node.

reported_so : (w : What) (tree : Tree) (kind : NodeKind) (words x : Text) → kind ≡ kind_in w
    → AreWordsOf w words → IsExampleOf w x → IsWhat w tree → IsReported tree kind words x
reported_so (what.Literal text) tree kind words x k named is e =
    subst (λ t. IsReported t kind words x) (sym e) (k, named, is)
reported_so (what.Component c) tree kind words x k named is e =
    subst (λ t. IsReported t kind words x) (sym e) (k, named, is)
reported_so (what.Optional format) tree kind words x k named is e =
    subst (λ t. IsReported t kind words x) (sym e.1) (k, named, is)
reported_so what.First tree kind words x k named is e =
    subst (λ t. IsReported t kind words x) (sym e.1) (k, named, is)
reported_so what.Several tree kind words x k named is e =
    subst (λ t. IsReported t kind words x) (sym e.1) (k, named, is)

pub piece_for : (w : What) (d : ℕ) (tree : Tree) (n : ShownNode) → n.depth ≡ capped d
    → n.bytes ≡ kept_bytes (reserve tree) → n.kind ≡ kind_in w
    → AreWordsOf w (string_bytes n.words) → IsExampleOf w (string_bytes n.example)
    → IsWhat w tree → IsPiece d tree n
piece_for w d tree n depth bytes kind named is e = record {
  depth = depth;
  bytes = bytes;
  reported = reported_so w tree n.kind (string_bytes n.words) (string_bytes n.example) kind named is e;
}

-- Nodes, one after another.

parts_joined : (ps qs : List Part) (ns ms : List ShownNode) → AreParts ps ns → AreParts qs ms
    → AreParts (ps ++ qs) (ns ++ ms)
parts_joined [] qs [] ms are more = more
parts_joined [] qs (n ∷ ns) ms are more = absurd are
parts_joined (p ∷ ps) qs [] ms are more = absurd are
parts_joined (p ∷ ps) qs (n ∷ ns) ms are more = (are.0, parts_joined ps qs ns ms are.1 more)

pub adds_none : (ns : List ShownNode) → Adds [] ns ns
adds_none ns = record { more = []; whole = sym (append-nil ns); each = tt }

pub adds_one : (p : Part) (n : ShownNode) (old new : List ShownNode) → new ≡ old ++ n ∷ [] → IsPart p n
    → Adds (p ∷ []) old new
adds_one p n old new e is = record { more = n ∷ []; whole = e; each = (is, tt) }

pub adds_both : (ps qs : List Part) (a b c : List ShownNode) → Adds ps a b → Adds qs b c
    → Adds (ps ++ qs) a c
adds_both ps qs a b c one two = record {
  more = one.more ++ two.more;
  whole = two.whole ∙ ap (λ ns. ns ++ two.more) one.whole ∙ append_assoc a one.more two.more;
  each = parts_joined ps qs one.more two.more one.each two.each;
}

-- Nodes that are appended to an empty list are the whole list.
pub adds_all : (ps : List Part) (old new : List ShownNode) → Adds ps old new → old ≡ []
    → AreParts ps new
adds_all ps old new adds none =
    subst (AreParts ps) (sym (adds.whole ∙ ap (λ ns. ns ++ adds.more) none)) adds.each

-- Trees, one after another.

pub all_more : (d : ℕ) (ts : List Tree) (t : Tree)
    → all_parts d (trees (ts ++ t ∷ [])) ≡ all_parts d (trees ts) ++ parts d t
all_more d [] t = append-nil (parts d t)
all_more d (u ∷ ts) t =
    ap (λ ps. parts d u ++ ps) (all_more d ts t)
    ∙ sym (append_assoc (parts d u) (all_parts d (trees ts)) (parts d t))

pub members_more : (d : ℕ) (ts : List Tree) (t : Tree)
    → members d (trees (ts ++ t ∷ [])) ≡ members d (trees ts) ++ piece d t ∷ []
members_more d [] t = refl
members_more d (u ∷ ts) t = ap (λ ps. piece d u ∷ ps) (members_more d ts t)

-- A description of several pieces.
pub described_list : (d : ℕ) (ts : List Tree) → NoCompounds ts
    → described d (pack ts) ≡ description d (pack ts) ∷ all_parts (d + 1) (trees ts)
described_list d [] flat = refl
described_list d (component c ∷ []) flat = refl
described_list d (literal bytes ∷ []) flat = refl
described_list d (compound ts ∷ []) flat = absurd (flat.0 tt)
described_list d (optional f t ∷ []) flat =
    ap (λ ps. description d (optional f t) ∷ piece (d + 1) (optional f t) ∷ ps)
    (sym (append-nil (described (d + 1 + 1) t)))
described_list d (first ts ∷ []) flat =
    ap (λ ps. description d (first ts) ∷ piece (d + 1) (first ts) ∷ ps)
    (sym (append-nil (alternatives (d + 1 + 1) ts)))
described_list d (t ∷ u ∷ ts) flat = refl
