use Rattle.std.proofs.Common.{◌≡◌, ◌<◌, ◌+◌, ◌∷◌, ◌∙◌, ap, arith, drop, length, string_bytes, sym}
use Rattle.std.proofs.lemmas.List.{drop_more}
use Rattle.timefd_lint.proofs.ManualLemmas.{all_noted, one_more}
use Rattle.timefd_lint.proofs.manual.notes_on.Goals as goal

pub each-preserved : goal.each-preserved
each-preserved c =
    one_more c.args.change c.args.version.now c.args.name.now c.args.source.now c.args.descriptions.now
    c.args.outcomes.now c.each.index c.index-descriptions-index.result _ (string_bytes c.each.notes)
    (string_bytes c.push_note_on.new.notes)
    (drop_more c.args.descriptions.now c.each.index c.index-descriptions-index.result (omega arith)
    ∙ ap (λ d. d ∷ drop (c.each.index + 1) c.args.descriptions.now) (sym c.index-descriptions-index.is))
    (drop_more c.args.outcomes.now c.each.index _ (omega arith)) c.in_ok-push_note_on.ensures c.each.invariant

pub returns : goal.returns
returns c =
    all_noted c.args.change c.args.version.now c.args.name.now c.args.source.now c.args.descriptions.now
    c.args.outcomes.now c.each.index (string_bytes c.each.notes) (omega arith) c.each.invariant
