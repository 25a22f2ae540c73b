use Rattle.timefd_date_moment.proofs.ReadingLemmas.StampedLemmas.{agreed, contradicted}
use Rattle.timefd_date_moment.proofs.reading.stamped.compared.Goals as goal

pub returns-in-None : goal.returns-in-None
returns-in-None c =
    agreed c.args.fields.now c.args.unix c.args.shift c.args.date c.args.time c.args.offset
    c.contradiction.result c.requires.zone c.requires.found c.requires.shows c.contradiction.ensures
    c.in-None.is

pub returns-in-Some : goal.returns-in-Some
returns-in-Some c =
    contradicted c.args.fields.now c.args.unix c.args.shift c.args.date c.args.time c.args.offset
    c.contradiction.result c.in-Some.part c.requires.zone c.requires.found c.requires.one c.requires.shows
    c.contradiction.ensures c.in-Some.is
