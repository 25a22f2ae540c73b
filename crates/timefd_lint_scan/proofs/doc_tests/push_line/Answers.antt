use Rattle.std.proofs.Common.{◌-◌, ap, arith, refl}
use Rattle.std.proofs.lemmas.Result.{on_ok_weaker}
use Rattle.std.specs.Vec.{vec_len}
use Rattle.timefd_lint_scan.specs.DocTests.{code_after}
use Rattle.timefd_lint_scan.specs.Bytes.{Text}
use Rattle.timefd_lint_scan.proofs.DocTestLemmas.{last_more}
use Rattle.timefd_lint_scan.proofs.doc_tests.push_line.Goals as goal

pub returns-in-Some : goal.returns-in-Some
returns-in-Some c =
    on_ok_weaker c.push_after.result
    (λ pushed. last_more (code_after c.args.gap.now c.args.text.now) c.args.tests.now.items c.in-Some.test.now _
    (vec_len c.args.tests.now - 1) (omega (arith, c.args.tests.now.ok, c.in-Some.ensures.variant.0 refl))
    c.in-Some.ensures.value
    (ap (λ (code : Text). record { start = c.in-Some.test.now.start; code = code }) pushed))
    c.push_after.ensures
