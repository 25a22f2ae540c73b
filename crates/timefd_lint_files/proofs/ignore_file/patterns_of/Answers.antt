use Rattle.std.proofs.Common.{rules, arith, ◌≡◌, length}
use Rattle.std.proofs.lemmas.Grind.{common_steps}
use Rattle.timefd_lint_files.proofs.IgnoreFileLemmas.{at_last}
use Rattle.timefd_lint_files.proofs.ignore_file.patterns_of.Goals as goal

pub returns : goal.returns
returns c =
    let none : length c.lines.rest.now ≡ 0 =
    first_of (search rules, omega arith, grind (arith, common_steps)) in
    at_last c.args.text.now c.lines.rest.now c.lines.patterns.items c.lines.invariant none
