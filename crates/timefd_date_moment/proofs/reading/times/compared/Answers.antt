use Rattle.timefd_date_moment.proofs.ReadingLemmas.TimeLemmas.{agreed, contradicted, unfound}
use Rattle.timefd_date_moment.proofs.reading.times.compared.Goals as goal

pub returns-in-None : goal.returns-in-None
returns-in-None c =
    agreed c.args.fields.now c.args.clock c.in-Ok.time c.time_contradiction.result c.requires
    c.time_contradiction.ensures c.in-None.is

pub returns-in-Some : goal.returns-in-Some
returns-in-Some c =
    contradicted c.args.fields.now c.args.clock c.in-Ok.time c.time_contradiction.result c.in-Some.part
    c.requires c.in-Ok.ensures.found c.in-Ok.ensures.one c.time_contradiction.ensures c.in-Some.is

pub returns-in-Err : goal.returns-in-Err
returns-in-Err c =
    unfound c.args.fields.now c.args.clock c.in-Err.part c.requires c.in-Err.ensures.one
    c.in-Err.ensures.fault
