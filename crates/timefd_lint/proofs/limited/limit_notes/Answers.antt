use Rattle.std.proofs.Common.{rules, ◌≡◌, ◌+◌, true, Some, string_bytes, subst}
use Rattle.timefd_lint.specs.Limited.{IsNextNoted}
use Rattle.timefd_lint.proofs.LimitedLemmas.{one_more}
use Rattle.timefd_lint.proofs.limited.limit_notes.Goals as goal

pub lines-preserved : goal.lines-preserved
lines-preserved c =
    let more : c.in_ok-note_next.field-0 ≡ true = search rules in
    one_more c.args.comment c.args.dialect (string_bytes c.in_ok-file.file) c.args.bytes.now (Some c.lines.reader.now)
    (Some c.note_next.new.reader.now) c.lines.index (string_bytes c.lines.notes)
    (string_bytes c.note_next.new.notes) c.in_ok-note_next.field-0 more c.lines.invariant
    (subst (λ f. IsNextNoted c.args.comment c.args.dialect f (c.lines.index + 1) (Some c.lines.reader.now)
    (Some c.note_next.new.reader.now) (string_bytes c.lines.notes) (string_bytes c.note_next.new.notes)
    c.in_ok-note_next.field-0) c.deref.ensures c.in_ok-note_next.ensures)
