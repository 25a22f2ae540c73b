use Rattle.std.proofs.lemmas.Iterator.{YieldsList-from_chars, text_from_collect}
use Rattle.std.proofs.lemmas.Iterator.Adapters.{YieldsList-from_skip}
use Rattle.timefd_lint_drawing.proofs.shown.chars_after.Goals as goal

pub returns : goal.returns
returns c =
    text_from_collect c.collect.result c.collect.ensures.ran
    (YieldsList-from_skip c.args.count (YieldsList-from_chars c.args.text.now c.utf8.text (cc)) (cc))
