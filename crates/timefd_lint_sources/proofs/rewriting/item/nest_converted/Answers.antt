use Rattle.std.proofs.Common.{rules}
use Rattle.std.specs.Prelude.{string_bytes}
use Rattle.timefd_lint_sources.proofs.RewritingLemmas.AsideLemmas.{is_nest}
use Rattle.timefd_lint_sources.proofs.rewriting.item.nest_converted.Goals as goal

pub returns-in_ok-format-in-Ok : goal.returns-in_ok-format-in-Ok
returns-in_ok-format-in-Ok c = λ after begins.
    is_nest c.args.version c.args.layout c.args.text.now c.args.inner.now (string_bytes c.in-Ok.answer)
    c.cut.result.0.now c.cut.result.1.now (string_bytes c.in_ok-format-in-Ok.field-0) after c.cut.ensures.parts
    c.in-Ok.ensures.converted (search rules) begins
