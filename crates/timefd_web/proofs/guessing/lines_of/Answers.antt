use Rattle.std.proofs.lemmas.Iterator.Consumers.{map_from_collect}
use Rattle.std.proofs.lemmas.Iterator.Splits.{YieldsList-from_lines}
use Rattle.timefd_web.proofs.GuessLemmas.{all_collected}
use Rattle.timefd_web.proofs.guessing.lines_of.Goals as goal

pub returns : goal.returns
returns c =
    all_collected c.collect.result c.args.text.now
    (map_from_collect c.collect.result c.collect.ensures.ran
    (YieldsList-from_lines c.args.text.now c.lines.ensures.rest))
