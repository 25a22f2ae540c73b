use Rattle.std.proofs.Common.{rules, arith, ◌≡◌, ◌++◌, ◌∷◌, []}
use Rattle.std.proofs.lemmas.Grind.{common_steps}
use Rattle.timefd_lint_files.proofs.NameLemmas.{alone}
use Rattle.timefd_lint_files.proofs.names.alone.Goals as goal

pub returns : goal.returns
returns c =
    let is : c.push.new.self.items ≡ c.new-files.result.items ++ c.in_ok-file.file ∷ [] =
    first_of (search rules, grind (arith, common_steps)) in
    alone c.args.front.now c.args.text.now c.as_bytes.result.now c.args.folder_len c.in_ok-file.file
    c.new-files.result.items c.push.new.self.items c.in_ok-file.ensures c.as_bytes.ensures.value
    c.new-files.ensures.items is
