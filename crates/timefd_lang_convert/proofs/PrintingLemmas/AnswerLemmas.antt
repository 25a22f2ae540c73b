-- From the two halves to the clauses.
use Rattle.std.proofs.Common.{ℕ, ◌≡◌, Option, Some, None, refl, sym, subst, ◌∙◌}
use Rattle.timefd_lang_component.specs.Tree.{Text, Tree}
use Rattle.timefd_language.specs.Grammar.{Spells, nesting_limit}
use Rattle.timefd_language.specs.declared.description_version.DescriptionVersion.TheVariants.{Three}
use Rattle.timefd_lang_convert.specs.declared.printing.error.Unspelled.{Unspelled}
use Rattle.timefd_lang_convert.specs.Printing.Laws.{SpellsTree}
use Rattle.timefd_lang_convert.specs.Printing.Printed.{printed, unpacked}
use Rattle.timefd_lang_convert.specs.Printing.Reasons.{reason, HasCounts}
use Rattle.timefd_lang_convert.proofs.PrintingLemmas.PrintedLemmas.{printing_law}
use Rattle.timefd_lang_convert.proofs.PrintingLemmas.SpelledLemmas.{spelled_law}

-- what is printed if no reason was found
pub answer-spells : (text : Text) (tree : Tree) (found : Option Unspelled)
    → found ≡ reason nesting_limit tree → found ≡ None
    → text ≡ printed tree → HasCounts tree → SpellsTree nesting_limit text tree
answer-spells text tree found is none written counts =
    let p = printing_law nesting_limit tree (sym is ∙ none) counts in
    (unpacked tree, subst (λ x. Spells Three nesting_limit 0 x (unpacked tree)) (sym written) p.0, p.1)

-- a reason that was found
pub found-spells-none : (text : Text) (tree : Tree) (found : Unspelled)
    → Some found ≡ reason nesting_limit tree → SpellsTree nesting_limit text tree → ⊥
found-spells-none text tree found is s =
    let none : Some found ≡ None = is ∙ (spelled_law nesting_limit text tree s).0 in
    absurd cc
