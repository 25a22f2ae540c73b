-- What follows from the two halves.
use Rattle.std.proofs.Common.{ℕ, ◌≡◌, List, refl, sym, ap, subst, ◌∙◌}
use Rattle.timefd_lang_component.specs.Tree.{Text, Tree, pack}
use Rattle.timefd_language.specs.declared.description_version.DescriptionVersion.TheVariants.{Three}
use Rattle.timefd_language.specs.Grammar.{Spells}
use Rattle.timefd_language.proofs.LawLemmas.{one_answer_law}
use Rattle.timefd_lang_convert.specs.Printing.Laws.{SpellsTree, ReadsBack, PrintedOnce, PrintAlike}
use Rattle.timefd_lang_convert.specs.Printing.Printed.{printed, unpacked}
use Rattle.timefd_lang_convert.proofs.PrintingLemmas.PrintedLemmas.{printing_law}
use Rattle.timefd_lang_convert.proofs.PrintingLemmas.SpelledLemmas.{spelled_law, spelled-unpacked}

-- if some text spells a tree, its printed text spells it
pub printed_spells : (limit : ℕ) (text : Text) (tree : Tree) → SpellsTree limit text tree
    → SpellsTree limit (printed tree) tree
printed_spells limit text tree s =
    let none = spelled_law limit text tree s in
    let p = printing_law limit tree none.0 none.1 in
    (unpacked tree, p.0, p.1)

-- a text has one tree
one_tree : (limit : ℕ) (text : Text) (a b : Tree) → SpellsTree limit text a
    → SpellsTree limit text b → a ≡ b
one_tree limit text a b s t =
    sym s.2 ∙ ap pack ((one_answer_law Three limit text).1.one_list s.0 t.0 s.1 t.1) ∙ t.2

pub reads_back_law : ReadsBack
unfolding printed_spells
reads_back_law limit text list s =
    subst (Spells Three limit 0 (printed (pack list))) (spelled-unpacked limit text list s)
    (printed_spells limit text (pack list) (list, s, refl)).1

pub printed_once_law : PrintedOnce
printed_once_law limit text tree other s again =
    ap printed (one_tree limit (printed tree) other tree again (printed_spells limit text tree s))

pub print_alike_law : PrintAlike
print_alike_law limit s t a b of_s of_t = (
  ap printed,
  λ e. one_tree limit (printed b) a b
      (subst (λ x. SpellsTree limit x a) e (printed_spells limit s a of_s))
      (printed_spells limit t b of_t),
)
