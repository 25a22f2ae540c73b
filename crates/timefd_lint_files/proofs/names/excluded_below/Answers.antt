use Rattle.std.proofs.Common.{rules, arith, ◌≡◌, ◌-◌, length}
use Rattle.std.proofs.lemmas.Grind.{common_steps}
use Rattle.timefd_lint_files.proofs.NameLemmas.{alone_below}
use Rattle.timefd_lint_files.proofs.names.excluded_below.Goals as goal

pub returns : goal.returns
returns c =
    let long : c.saturating_sub-cut.result ≡ length c.args.folder.now - length c.start_below-start.result.rest.now =
    first_of (search rules, omega arith, grind (arith, common_steps)) in
    alone_below c.args.excluded c.args.folder.now c.start_below-start.result c.saturating_sub-cut.result
    c.in_ok-files.files.items c.start_below-start.ensures long
    c.in_ok-files.ensures
