use Rattle.std.proofs.Common.{refl, subst}
use Rattle.std.specs.Prelude.{string_bytes}
use Rattle.timefd_lint_sources.specs.Rewriting.Values.{IsFoundRewritten}
use Rattle.timefd_lint.specs.Rewritten.{AreCounted, AreManualNotes, AreNotesOnLimits}
use Rattle.timefd_lint.specs.Sources.{finder_of}
use Rattle.timefd_lint.proofs.RewrittenLemmas.{none_noted, text_noted, text_rewritten}
use Rattle.timefd_lint.proofs.found.source_looked_at.Goals as goal

pub returns-in_ok-limits_in-in-Ok-clause-rewritten : goal.returns-in_ok-limits_in-in-Ok-clause-rewritten
returns-in_ok-limits_in-in-Ok-clause-rewritten g c =
    text_rewritten c.args.change (finder_of c.args.options c.args.name.now) c.args.old.now c.in-Ok.text.now
    c.in_ok-new-in-Ok.new c.counts_of.result c.in_ok-new-in-Ok.new.bytes.items c.in-Ok.ensures.cases.0
    c.in-Ok.ensures.cases.1
    (subst (λ finder. IsFoundRewritten c.args.change finder c.in-Ok.text.now c.in_ok-new-in-Ok.new)
    c.finder_of.ensures c.in_ok-new-in-Ok.ensures)
    (subst (λ os. AreCounted os c.counts_of.result) c.deref.ensures.value c.counts_of.ensures) refl

pub returns-in_ok-limits_in-in-Ok-clause-noted : goal.returns-in_ok-limits_in-in-Ok-clause-noted
returns-in_ok-limits_in-in-Ok-clause-noted g c =
    text_noted c.args.change (finder_of c.args.options c.args.name.now) c.args.name.now c.args.old.now c.in-Ok.text.now
    c.in_ok-new-in-Ok.new c.deref-in-Ok.result.now (string_bytes c.in_ok-manual_in-in-Ok.field-0)
    (string_bytes c.in_ok-limits_in-in-Ok.field-0) c.in-Ok.ensures.cases.0 c.in-Ok.ensures.cases.1
    (subst (λ finder. IsFoundRewritten c.args.change finder c.in-Ok.text.now c.in_ok-new-in-Ok.new)
    c.finder_of.ensures c.in_ok-new-in-Ok.ensures)
    c.deref-in-Ok.ensures.value
    (subst (λ finder. AreManualNotes c.args.change finder c.args.name.now c.in-Ok.text.now c.deref-in-Ok.result.now
    (string_bytes c.in_ok-manual_in-in-Ok.field-0)) c.finder_of.ensures c.in_ok-manual_in-in-Ok.ensures)
    (subst (λ finder. AreNotesOnLimits c.args.change finder c.args.name.now c.in-Ok.text.now
    (string_bytes c.in_ok-limits_in-in-Ok.field-0)) c.finder_of.ensures c.in_ok-limits_in-in-Ok.ensures)
