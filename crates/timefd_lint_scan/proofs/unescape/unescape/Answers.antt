use Rattle.std.proofs.Common.{◌-◌, length, get_or, take, drop, rules, arith}
use Rattle.std.proofs.lemmas.Grind.{common_steps}
use Rattle.timefd_lint_scan.proofs.FirstLemmas.{none, split}
use Rattle.timefd_lint_scan.proofs.UnescapeLemmas.{one_more, faulty, at_last}
use Rattle.timefd_lint_scan.proofs.unescape.unescape.Goals as goal

pub returns-in_default-part_of : goal.returns-in_default-part_of
returns-in_default-part_of c =
    faulty c.args.kind c.args.end c.parts.text.items c.parts.positions.items
    (get_or c.parts.rest.now 0 0) (take (length c.parts.rest.now - 1) (drop 1 c.parts.rest.now))
    c.parts.rest.now c.args.body.now c.part_of.result
    c.parts.invariant c.part_of.ensures.part
    (first_of (search rules, cc, grind (arith, common_steps)))
    (split c.parts.rest.now (omega (arith, c.in-len1-up.len_at_least)))

pub parts-preserved : goal.parts-preserved
parts-preserved c =
    one_more c.args.kind c.args.end c.parts.text.items c.push_part.new.text.items
    c.parts.positions.items c.push_part.new.positions.items
    (get_or c.parts.rest.now 0 0) (take (length c.parts.rest.now - 1) (drop 1 c.parts.rest.now))
    c.parts.rest.now c.args.body.now c.part_of.result c.in-Some.next
    c.parts.invariant c.part_of.ensures.part
    (first_of (search rules, cc, grind (arith, common_steps)))
    (split c.parts.rest.now (omega (arith, c.in-len1-up.len_at_least)))
    (first_of (search rules, omega arith, grind (arith, common_steps)))
    (first_of (search rules, cc, grind (arith, common_steps)))
    (first_of (search rules, cc, grind (arith, common_steps)))

pub returns : goal.returns
returns c =
    at_last c.args.kind c.args.end c.parts.text.items c.parts.positions.items c.parts.rest.now
    c.args.body.now c.parts.invariant
    (none c.parts.rest.now (omega (arith, c.in_default.len_below)))
