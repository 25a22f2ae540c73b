use Rattle.timefd_lint_warnings.proofs.FoundLemmas.{found_as_spelled}
use Rattle.timefd_lint_warnings.proofs.found.found_in_version.Goals as goal

pub returns-in-Ok : goal.returns-in-Ok
returns-in-Ok c = record {
  accepted =
      let k = c.in-Ok.ensures.found in
      (k.0, k.1, found_as_spelled c.args.version k.0 c.in-Ok.output c.args.levels c.found_of.result c.found_of.ensures k.2);
  spelled = λ list s.
      found_as_spelled c.args.version list c.in-Ok.output c.args.levels c.found_of.result c.found_of.ensures
      (c.in-Ok.ensures.spelled list s);
}
