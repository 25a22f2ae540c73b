-- What nodes are as a list.
use Rattle.std.proofs.Common.{◌≡◌, ◌∙◌, ℕ, ◌+◌, ◌-◌, ◌≤◌, Bool, true, false, List, [], ◌∷◌, ◌++◌, length, take, drop, refl, sym, ap, arith}
use Rattle.std.proofs.lemmas.List.{take_all}
use Rattle.std.proofs.lemmas.Str.{IsUtf8-from_is_utf8, is_utf8-from_IsUtf8}
use Rattle.std.specs.Str.{IsUtf8, is_utf8}
use Rattle.timefd_lang_component.specs.declared.component.Component.{Component}
use Rattle.timefd_lang_component.specs.Modern.{modern}
use Rattle.timefd_lang_component.specs.Tree.{Text, Tree, component, compound, literal, trees}
use Rattle.timefd_lang_node_list.specs.Nodes.{Role, arity, before, ending, grown, shown, text}
use Rattle.timefd_lang_node_list.proofs.NodeLemmas.{before_zero}
use Rattle.timefd_c_nodes.specs.declared.node.RawNode.{RawNode}
use Rattle.timefd_c_nodes.specs.Formatting.Nodes.{node_trees}
use Rattle.timefd_c_nodes.proofs.FormattingLemmas.CutLemmas.{as_part, grown_length}

pub are_utf8 : (bs : Text) → IsUtf8 bs → true ≡ is_utf8 bs
are_utf8 bs h = sym (is_utf8-from_IsUtf8 bs h)

pub are_no_utf8 : (bs : Text) → (IsUtf8 bs → ⊥) → false ≡ is_utf8 bs
are_no_utf8 bs h = by (is_utf8 bs) refl
  where
    by : (b : Bool) → is_utf8 bs ≡ b → false ≡ is_utf8 bs
    by true e = absurd (h (IsUtf8-from_is_utf8 bs e))
    by false e = sym e

pub are_text : (bs : Text) → is_utf8 bs ≡ true → IsUtf8 bs
are_text bs e = IsUtf8-from_is_utf8 bs e

pub text_grown : (ts us : List Tree) (bytes : Text) → us ≡ ts ++ literal bytes ∷ []
    → us ≡ grown ts (as_part (text bytes))
text_grown ts us bytes e = e ∙ ap (λ vs. vs ++ literal bytes ∷ []) (sym (before_zero ts))

pub component_grown : (ts us : List Tree) (c : Component) → us ≡ ts ++ component (modern c) ∷ []
    → us ≡ grown ts (as_part (shown c))
component_grown ts us c e = e ∙ ap (λ vs. vs ++ component (modern c) ∷ []) (sym (before_zero ts))

pub counted_on : (ts us : List Tree) (r : Role) (count m : ℕ) → arity r ≤ length ts
    → us ≡ grown ts (as_part r) → count ≡ length ts → m ≡ arity r → count - m + 1 ≡ length us
counted_on ts us r count m fits is c e = omega (arith, grown_length ts r fits, ap length is, c, e)

pub whole_compound : (ts : List Tree) (count : ℕ) → count ≡ length ts
    → before count ts ++ compound (trees (ending count ts)) ∷ [] ≡ compound (trees ts) ∷ []
whole_compound ts count e =
    let none : length ts - count ≡ 0 = omega (arith, e) in
    ap (λ k. take k ts ++ compound (trees (drop k ts)) ∷ []) none

pub all_listed : (l : Text) (ns : List RawNode) (k : ℕ) (ts us : List Tree)
    → us ≡ compound (trees ts) ∷ [] → ts ≡ node_trees l (take k ns) → length ns ≤ k
    → us ≡ compound (trees (node_trees l ns)) ∷ []
all_listed l ns k ts us e t h =
    e ∙ ap (λ vs. compound (trees vs) ∷ []) (t ∙ ap (node_trees l) (take_all k ns h))
