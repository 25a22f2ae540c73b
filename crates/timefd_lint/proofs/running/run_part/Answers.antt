use Rattle.std.proofs.Common.{◌∙◌, ap, map, string_bytes, subst, sym}
use Rattle.std.proofs.lemmas.Result.{IfOk-weaker}
use Rattle.timefd_lint.specs.Parts.{AreOptions}
use Rattle.timefd_lint.proofs.PartLemmas.{some_files}
use Rattle.timefd_lint.proofs.running.run_part.Goals as goal

pub returns-clause-reported : goal.returns-clause-reported
returns-clause-reported g c =
    IfOk-weaker c.run.result _ _
    (λ tally run. some_files c.args.is_colored c.args.part.now (g.W.Sink.contents c.args.output.now)
    (g.W.Sink.contents c.run.new.writer) tally c.in_ok-files.files.items c.options.result
    (sym c.is_empty.ensures ∙ c.if-is_empty.false)
    (c.in_ok-files.ensures ∙ ap (map string_bytes) c.deref.ensures.value)
    (subst (λ files. AreOptions c.args.is_colored c.args.part.now files c.options.result) c.deref-2.ensures.value
    c.options.ensures) run)
    c.run.ensures.reported
