use Rattle.std.proofs.Common.{sym}
use Rattle.timefd_date_moment.proofs.ReadingLemmas.DateLemmas.{agreed, contradicted, strayed, unfound}
use Rattle.timefd_date_moment.proofs.reading.dates.compared.Goals as goal

pub returns-in-None-date_contradiction : goal.returns-in-None-date_contradiction
returns-in-None-date_contradiction c =
    agreed c.args.fields.now c.args.way c.in-Some.date c.date_contradiction.result c.requires.way
    c.date_contradiction.ensures c.in-None-date_contradiction.is

pub returns-then-has_way : goal.returns-then-has_way
returns-then-has_way c =
    contradicted c.args.fields.now c.args.way c.in-Some.date c.date_contradiction.result
    c.in-Some-date_contradiction.part c.requires.way c.in-Some.ensures c.date_contradiction.ensures
    c.in-Some-date_contradiction.is (sym c.if-has_way.ensures)

pub returns-else-has_way : goal.returns-else-has_way
returns-else-has_way c =
    strayed c.args.fields.now c.args.way c.in-Some.date c.date_contradiction.result
    c.in-Some-date_contradiction.part c.way_fault.result c.requires.way c.in-Some.ensures
    c.date_contradiction.ensures c.in-Some-date_contradiction.is (sym c.if-has_way.ensures) c.way_fault.ensures

pub returns-in-None : goal.returns-in-None
returns-in-None c =
    unfound c.args.fields.now c.args.way c.way_fault-in-None.result c.requires.way c.in-None.ensures
    c.way_fault-in-None.ensures
