use Rattle.std.proofs.Common.{false, subst}
use Rattle.timefd_items.specs.Builder.{built}
use Rattle.timefd_language.specs.Grammar.{nesting_limit}
use Rattle.timefd_parse.specs.Read.{IsNext}
use Rattle.timefd_lint_explain.proofs.LeafLemmas.{component_leads, literal_leads}
use Rattle.timefd_lint_explain.proofs.pieces.first_leaf.Goals as goal

pub returns-in-Ok-Some-Literal-default-clause-leads : goal.returns-in-Ok-Some-Literal-default-clause-leads
returns-in-Ok-Some-Literal-default-clause-leads c =
    let found = c.in-Ok-Some-Literal-default in
    literal_leads c.args.version c.args.text.now (built c.new-builder.result) (built c.next_piece.new.builder)
    found.field-0-0-0 found.literal found.after found.field-0-0-0-is
    (subst (IsNext c.args.version false nesting_limit 0 c.args.text.now (built c.new-builder.result)
    (built c.next_piece.new.builder)) found.field-0-is found.ensures.next)

pub returns-in-Ok-Some-Component-default-clause-leads : goal.returns-in-Ok-Some-Component-default-clause-leads
returns-in-Ok-Some-Component-default-clause-leads c =
    let found = c.in-Ok-Some-Component-default in
    component_leads c.args.version c.args.text.now (built c.new-builder.result) (built c.next_piece.new.builder)
    found.field-0-0-0 found.component found.field-0-0-0-1 found.after found.field-0-0-0-is
    (subst (IsNext c.args.version false nesting_limit 0 c.args.text.now (built c.new-builder.result)
    (built c.next_piece.new.builder)) found.field-0-is found.ensures.next)
