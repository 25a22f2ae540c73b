use Rattle.std.proofs.Common.{rules, arith}
use Rattle.std.proofs.lemmas.Grind.{common_steps}
use Rattle.timefd_lint_scan.proofs.WrittenLemmas.{raw_body}
use Rattle.timefd_lint_scan.proofs.written.raw.Goals as goal

pub returns-clause-body : goal.returns-clause-body
returns-clause-body c =
    raw_body c.args.encoding c.args.hash_count c.args.text.now c.in_ok-from_slice.field-0.items
    (first_of (search rules, cc, grind (arith, common_steps)))
    (first_of (search rules, cc, grind (arith, common_steps)))
