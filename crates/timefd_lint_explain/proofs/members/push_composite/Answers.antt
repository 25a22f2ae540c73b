use Rattle.std.proofs.Common.{false-eqb}
use Rattle.timefd_lint_explain.proofs.ShownLemmas.{compound_strings, each_string, some_item}
use Rattle.timefd_lint_explain.proofs.members.push_composite.Goals as goal

pub push_items-requires : goal.push_items-requires
push_items-requires c =
    compound_strings c.index-items-0.result c.in-Compound.members c.in-Compound.is
    (each_string c.args.items.now 0 c.index-items-0.result
    (some_item c.args.items.now (false-eqb _ 0 c.if-is_empty.ensures)) c.index-items-0.is
    c.requires)
