use Rattle.timefd_date_moment.proofs.ReadingLemmas.OffsetLemmas.{contradicted, unfound}
use Rattle.timefd_date_moment.proofs.reading.offsets.compared.Goals as goal

pub returns-in-Some : goal.returns-in-Some
returns-in-Some c =
    contradicted c.args.fields.now c.args.shift c.in-Ok.offset c.offset_contradiction.result c.in-Some.part
    c.requires c.in-Ok.ensures.found c.in-Ok.ensures.one c.offset_contradiction.ensures c.in-Some.is

pub returns-in-Err : goal.returns-in-Err
returns-in-Err c =
    unfound c.args.fields.now c.args.shift c.in-Err.part c.requires c.in-Err.ensures.one
    c.in-Err.ensures.fault
