use Rattle.std.proofs.Common.{option_map, ap, ◌∙◌}
use Rattle.timefd_language.specs.declared.setting.Setting.{Setting}
use Rattle.timefd_language.proofs.Counts.{unread_count, read_count}
use Rattle.timefd_language.proofs.value.count_of.Goals as goal

pub returns : goal.returns
returns c =
    read_count c.args.word.now c.parse.result c.in_ok-count.count c.new.result
    c.parse.ensures.value.0 c.in_ok-count.ensures.value c.new.ensures

pub returns-in_err-count : goal.returns-in_err-count
returns-in_err-count c =
    ap (option_map Setting.Count) c.from_residual.ensures
    ∙ unread_count c.args.word.now c.parse.result c.parse.ensures.value.0
    c.in_err-count.ensures.value
