-- Nodes with their examples, one after another.
use Rattle.std.proofs.Common.{◌≡◌, ◌∙◌, List, [], ◌∷◌, ◌++◌, sym, subst, append-nil}
use Rattle.timefd_lang_component.specs.Modern.{modern}
use Rattle.timefd_lang_component.specs.Tree.{Text}
use Rattle.timefd_lang_component.specs.declared.component.Component.{Component}
use Rattle.timefd_lang_component.specs.Bracket.Words as names
use Rattle.timefd_lang_component.specs.declared.bracket.defaults.Defaults.{Defaults}
use Rattle.timefd_lint_explain.specs.declared.node.ShownNode.{ShownNode}
use Rattle.timefd_lint_explain.specs.declared.node.NodeKind.{NodeKind}
use Rattle.timefd_lint_explain.specs.declared.piece.What.{What}
use Rattle.timefd_lint_explain.specs.declared.piece.What.TheVariants as what
use Rattle.timefd_lint_explain.specs.Examples.{AreWordsOf, Examples, HasExample, IsExampleFor, Names, kind_in}
use Rattle.timefd_lint_explain.specs.Shown.{IsExampleOf}

one_more : (ns : List ShownNode) (n : ShownNode) → HasExample n → Examples ns → Examples (ns ++ n ∷ [])
one_more [] n has all = (has, tt)
one_more (m ∷ ns) n has all = (all.0, one_more ns n has all.1)

pub examples_more : (before after : List ShownNode) (n : ShownNode) → after ≡ before ++ n ∷ [] → HasExample n
    → Examples before → Examples after
examples_more before after n e has all = subst Examples (sym e) (one_more before n has all)

reported : (w : What) (words x : Text) → AreWordsOf w words → IsExampleOf w x
    → IsExampleFor (kind_in w) words x
reported (what.Literal text) words x named is = tt
reported (what.Component c) words x named is = (c, named, is)
reported (what.Optional format) words x named is = is
reported what.First words x named is = is
reported what.Several words x named is = is

pub example_for : (w : What) (k : NodeKind) (words x : Text) → k ≡ kind_in w → AreWordsOf w words
    → IsExampleOf w x → IsExampleFor k words x
example_for w k words x e named is =
    subst (λ kind. IsExampleFor kind words x) (sym e) (reported w words x named is)

pub named_alone : (c : Component) (words : Text) → words ≡ names.words Defaults.Written (modern c) → Names c words
named_alone c words e = ([], e ∙ sym (append-nil (names.words Defaults.Written (modern c))))

pub named_so : (c : Component) (words front rest : Text) → words ≡ front ++ rest
    → front ≡ names.words Defaults.Written (modern c) → Names c words
named_so c words front rest e is = (rest, subst (λ f. words ≡ f ++ rest) is e)
