use Rattle.std.proofs.Common.{◌-◌, ◌∙◌, length, get_or, take, drop, rules, arith, refl}
use Rattle.std.proofs.lemmas.Grind.{common_steps}
use Rattle.timefd_lint_scan.proofs.FirstLemmas.{none, split}
use Rattle.timefd_lint_scan.proofs.KeysLemmas.ReadingLemmas.{at_closing, ended, faulty, one_more, unended}
use Rattle.timefd_lint_scan.proofs.keys.reading.read.Goals as goal

pub returns-then-closes : goal.returns-then-closes
returns-then-closes c =
    c.reported_as.ensures
    ∙ at_closing c.args.style c.args.end c.parts.text.items c.parts.positions.items
    (get_or c.parts.rest.now 0 0) (take (length c.parts.rest.now - 1) (drop 1 c.parts.rest.now))
    c.parts.rest.now c.args.all.now c.closes.result (c.args.end - length c.parts.rest.now)
    c.parts.invariant c.closes.ensures c.if-closes.true
    (split c.parts.rest.now (omega (arith, c.in-len1-up.len_at_least))) refl

pub returns-in_default-part_of : goal.returns-in_default-part_of
returns-in_default-part_of c =
    faulty c.args.style c.args.end c.parts.text.items c.parts.positions.items
    (get_or c.parts.rest.now 0 0) (take (length c.parts.rest.now - 1) (drop 1 c.parts.rest.now))
    c.parts.rest.now c.args.all.now c.closes.result c.part_of.result
    c.parts.invariant c.closes.ensures c.if-closes.false c.part_of.ensures.part
    (first_of (search rules, cc, grind (arith, common_steps)))
    (split c.parts.rest.now (omega (arith, c.in-len1-up.len_at_least)))

pub parts-preserved : goal.parts-preserved
parts-preserved c =
    one_more c.args.style c.args.end c.parts.text.items c.push_part.new.text.items
    c.parts.positions.items c.push_part.new.positions.items
    (get_or c.parts.rest.now 0 0) (take (length c.parts.rest.now - 1) (drop 1 c.parts.rest.now))
    c.parts.rest.now c.args.all.now c.closes.result c.part_of.result c.in-Some.next
    c.parts.invariant c.closes.ensures c.if-closes.false c.part_of.ensures.part
    (first_of (search rules, cc, grind (arith, common_steps)))
    (split c.parts.rest.now (omega (arith, c.in-len1-up.len_at_least)))
    (first_of (search rules, omega arith, grind (arith, common_steps)))
    (first_of (search rules, cc, grind (arith, common_steps)))
    (first_of (search rules, cc, grind (arith, common_steps)))

pub returns-then-is_closed_by_end : goal.returns-then-is_closed_by_end
returns-then-is_closed_by_end c =
    c.reported_as-then-is_closed_by_end.ensures
    ∙ ended c.args.style c.args.end c.parts.text.items c.parts.positions.items c.parts.rest.now
    c.args.all.now c.is_closed_by_end.result c.parts.invariant
    (none c.parts.rest.now (omega (arith, c.in_default.len_below)))
    c.is_closed_by_end.ensures c.if-is_closed_by_end.true

pub returns : goal.returns
returns c =
    unended c.args.style c.args.end c.parts.text.items c.parts.positions.items c.parts.rest.now
    c.args.all.now c.is_closed_by_end.result c.parts.invariant
    (none c.parts.rest.now (omega (arith, c.in_default.len_below)))
    c.is_closed_by_end.ensures c.if-is_closed_by_end.false
