use Rattle.timefd_format.specs.Expected.{part_trees}
use Rattle.timefd_format.proofs.ExpectedLemmas.{stop_is}
use Rattle.timefd_format.proofs.expected.stop_of.Goals as goal

pub returns-then-unread-read-lt2 : goal.returns-then-unread-read-lt2
returns-then-unread-read-lt2 c =
    stop_is (part_trees c.args.parts) c.args.word.now c.halves.read c.halves.unread c.halves.invariant.0
    c.halves.invariant.1 c.halves.invariant.2 c.halves.invariant.3 c.if-unread-read-lt2.true
