use Rattle.std.proofs.Common.{rules, ap, sym, ◌∙◌}
use Rattle.timefd_lang_warnings.specs.Levels.{is_same}
use Rattle.timefd_lang_warnings.proofs.LevelLemmas.{one_more, split_first}
use Rattle.timefd_lang_warnings.proofs.levels.Levels.count.Goals as goal

pub warnings-preserved-then-is_same : goal.warnings-preserved-then-is_same
warnings-preserved-then-is_same c =
    one_more c.args.level c.args.self c.warnings.left.now _ _ c.warnings.count
    c.saturating_add-count.result
    (split_first c.warnings.left.now _ _ (search rules) c.in-len1-up.len_at_least)
    (ap (is_same c.args.level) (sym c.level_of.ensures) ∙ (sym c.is_same.ensures ∙ c.if-is_same.true))
    c.warnings.invariant c.saturating_add-count.ensures
