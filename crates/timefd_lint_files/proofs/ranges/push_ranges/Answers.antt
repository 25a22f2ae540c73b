use Rattle.timefd_lint_files.specs.Classes.{read_rest}
use Rattle.timefd_lint_files.proofs.ClassLemmas.{at_last}
use Rattle.timefd_lint_files.proofs.ranges.push_ranges.Goals as goal

pub returns-clause-ranges : goal.returns-clause-ranges
returns-clause-ranges c =
    at_last c.args.text.now c.class.rest.now c.args.ranges.now.items c.class.ranges.items c.class.is_first
    c.first_range.result (read_rest c.after_closing.result) c.class.invariant.so_far c.first_range.ensures.read
    c.in_default.is c.after_closing.ensures.read
