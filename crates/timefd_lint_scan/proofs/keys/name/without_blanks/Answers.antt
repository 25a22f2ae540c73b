use Rattle.std.proofs.Common.{arith}
use Rattle.timefd_lint_scan.proofs.KeysLemmas.NameLemmas.{at_last, one_less}
use Rattle.timefd_lint_scan.proofs.keys.name.without_blanks.Goals as goal

pub returns-then-not-is_blank : goal.returns-then-not-is_blank
returns-then-not-is_blank c =
    at_last c.bytes.rest.now c.args.text.now c.is_blank.result c.bytes.invariant c.is_blank.ensures
    (search) (omega (arith, c.in-len1-up.len_at_least))

pub bytes-preserved : goal.bytes-preserved
bytes-preserved c =
    one_less c.bytes.rest.now c.args.text.now c.is_blank.result c.bytes.invariant c.is_blank.ensures
    (search) (omega (arith, c.in-len1-up.len_at_least))
