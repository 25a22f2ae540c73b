use Rattle.timefd_items.specs.Builder.{built}
use Rattle.timefd_parse.proofs.BuildingLemmas.{built_unsaid, is_off, is_on, pack_last}
use Rattle.timefd_parse.proofs.building.pack.Goals as goal

pub returns-then-not-this-clause-built : goal.returns-then-not-this-clause-built
returns-then-not-this-clause-built g c = λ base list are counted.
    built_unsaid _ base _ _ (is_off g.row.BUILDS c.if-not-this.true)

pub pack-requires-clause-there : goal.pack-requires-clause-there
pack-requires-clause-there g c = c.requires.there (is_on g.row.BUILDS c.if-not-this.false)

pub pack-requires-clause-fits : goal.pack-requires-clause-fits
pack-requires-clause-fits g c = c.requires.fits (is_on g.row.BUILDS c.if-not-this.false)

pub returns-clause-built : goal.returns-clause-built
returns-clause-built g c = λ base list are counted. pack_last c.pack.result _ base
    (built c.args.builder.now) (built c.pack.new.self) list c.args.count are counted
    (is_on g.row.BUILDS c.if-not-this.false) c.pack.ensures.packed
