use Rattle.std.proofs.Common.{arith, refl, rules}
use Rattle.timefd_lang_component.specs.Tree.{trees}
use Rattle.timefd_lint_explain.specs.Parts.{all_parts}
use Rattle.timefd_lint_explain.specs.Stands.{PiecesStand}
use Rattle.timefd_lint_explain.proofs.PartLemmas.{adds_all}
use Rattle.timefd_lint_explain.proofs.StandLemmas.{all_stand}
use Rattle.timefd_lint_explain.proofs.explain.explanation_of.Goals as goal

pub returns-clause-parts : goal.returns-clause-parts
returns-clause-parts c = λ list s.
    adds_all (all_parts 0 (trees list)) _ _ (c.in_ok-bytes.ensures.parts 0 list refl s)
    (search rules)

pub returns-clause-positions : goal.returns-clause-positions
returns-clause-positions c = λ list s.
    all_stand (PiecesStand c.args.language (trees list) 0 c.args.text.now) _ _
    (c.in_ok-bytes.ensures.positions list (omega (arith, c.type_inv.text)) s) (search rules)
