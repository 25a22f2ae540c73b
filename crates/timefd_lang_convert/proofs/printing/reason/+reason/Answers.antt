use Rattle.timefd_lang_node_list.specs.Views.{member_trees}
use Rattle.timefd_lang_convert.proofs.PrintingLemmas.LoopLemmas.{lone_found, lone_none, some_alternative}
use Rattle.timefd_lang_convert.proofs.printing.reason.+reason.Goals as goal

pub compound_reason-returns-then-len-eq1 : goal.compound_reason-returns-then-len-eq1
compound_reason-returns-then-len-eq1 t c =
    lone_found (member_trees c.args.members) c.args.left _ c.len.ensures c.if-len-eq1.true

pub compound_reason-returns-else-len-eq1 : goal.compound_reason-returns-else-len-eq1
compound_reason-returns-else-len-eq1 t c =
    lone_none (member_trees c.args.members) c.args.left _ _ c.len.ensures c.if-len-eq1.false
    c.members_reason.ensures

pub first_reason-returns-else-is_empty : goal.first_reason-returns-else-is_empty
first_reason-returns-else-is_empty t c =
    some_alternative (member_trees c.args.alternatives) c.args.left _ _ c.is_empty.ensures
    c.if-is_empty.false c.alternatives_reason.ensures
