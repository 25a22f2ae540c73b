use Rattle.std.specs.Prelude.{string_bytes}
use Rattle.timefd_lint_rewrite.proofs.LayoutLemmas.{reads_as_normal}
use Rattle.timefd_lint_rewrite.proofs.nearest.reads_as.Goals as goal

pub returns-in-Ok : goal.returns-in-Ok
returns-in-Ok c =
    reads_as_normal c.args.text.now (string_bytes c.in-Ok.normal) c.as_str.result.now
    c.args.rewritten.now c.eq.result c.in-Ok.ensures.normal c.in-Ok.ensures.same_items
    c.as_str.ensures.value c.eq.ensures
