-- What the contracts say about a text that was written byte by byte, if version 1 spells the text
-- that it was made from.
use Rattle.std.proofs.Common.{◌≡◌, List, ap, sym, ◌∙◌}
use Rattle.timefd_lang_component.specs.Tree.{Text, Tree, joined}
use Rattle.timefd_language.specs.declared.description_version.DescriptionVersion.TheVariants.{One}
use Rattle.timefd_language.specs.Grammar.{Pieces, Spells, nesting_limit}
use Rattle.timefd_language.specs.Laws.{Lifting}
use Rattle.timefd_language.specs.Rewritten.{rewritten}
use Rattle.timefd_lift.specs.Answers.{IsSpelledBy, IsRewritten, HasItemsOf}
use Rattle.timefd_lift.specs.Bytewise.{outside}
use Rattle.timefd_lift.proofs.Rewriting.{outside-spelling}

pub writes-rewritten : (text answer : Text) (ps : Pieces) → answer ≡ outside text
    → IsSpelledBy ps text → answer ≡ rewritten ps
writes-rewritten text answer ps written spelled = written ∙ ap outside spelled.1 ∙
    outside-spelling nesting_limit 0 ps spelled.0

pub is-rewritten : (text answer : Text) (list : List Tree) → answer ≡ outside text
    → Spells One nesting_limit 0 text list → IsRewritten text answer
is-rewritten text answer list written s =
    (s.0, (s.1, s.2), writes-rewritten text answer s.0 written (s.1, s.2))

pub has-items : Lifting → (text answer : Text) → answer ≡ outside text → HasItemsOf text answer
has-items law text answer written list s =
    let lifted = law nesting_limit s.0 s.1 in
    let spelled = lifted.1 in (
      lifted.0,
      (
        spelled.0,
        spelled.1,
        writes-rewritten text answer s.0 written (s.1, s.2) ∙ spelled.2,
        spelled.3,
      ),
      lifted.2 ∙ ap joined (sym s.3),
    )
