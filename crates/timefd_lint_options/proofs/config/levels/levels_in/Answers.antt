use Rattle.std.proofs.Common.{◌≡◌, ◌∷◌, arith}
use Rattle.std.proofs.lemmas.Grind.{common_steps}
use Rattle.toml.specs.View.{members_view}
use Rattle.toml.proofs.Views.{Entry}
use Rattle.timefd_lint_options.specs.Config.Levels.{levels_in}
use Rattle.timefd_lint_options.proofs.ConfigLemmas.LevelLemmas.{is_set}
use Rattle.timefd_lint_options.proofs.config.levels.levels_in.Goals as goal

pub levels-preserved : goal.levels-preserved
levels-preserved c =
    let (can, finite, same) = c.levels.invariant in
    let e : Entry = (c.in-Some.name.now, c.in-Some.value.now) in
    let iter : c.levels.name-iterator ≡ e ∷ c.next.new.self = grind (arith, common_steps) in
    (tt, tt, is_set c.levels.levels c.in_ok-levels.levels e c.next.new.self c.levels.name-iterator (levels_in (members_view c.args.table.now.entries)) iter c.in_ok-levels.ensures.levels same)
