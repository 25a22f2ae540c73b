use Rattle.std.proofs.Common.{rules, arith, ◌≡◌, ◌++◌, string_bytes, subst}
use Rattle.std.proofs.lemmas.Grind.{common_steps}
use Rattle.timefd_lint_files.specs.Upwards.{IsTextOr, items_any}
use Rattle.timefd_lint_files.proofs.UpwardLemmas.{found_here}
use Rattle.timefd_lint_files.proofs.upwards.+first_upwards.Goals as goal

pub returns-in-Some-clause-found : goal.returns-in-Some-clause-found
returns-in-Some-clause-found g t c =
    let holds = g.S.FileSystem.holds c.args.system.now in
    let fails = g.S.FileSystem.fails c.args.system.now in
    let same : string_bytes c.in_ok-folder.folder ≡ c.args.folder.now =
    first_of (search rules, grind (arith, common_steps)) in
    let has : holds (c.args.folder.now ++ c.args.name.now) c.in-Some.text.items =
    subst (λ t. IsTextOr holds fails (c.args.folder.now ++ c.args.name.now) (items_any t)) c.in-Some.is
    c.in_ok-text.ensures.text in
    found_here holds fails (g.S.FileSystem.folders c.args.system.now) c.args.name.now c.args.above c.args.folder.now
    (string_bytes c.in_ok-folder.folder) c.in-Some.text.items has same
