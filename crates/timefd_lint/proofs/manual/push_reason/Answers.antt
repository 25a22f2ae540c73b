use Rattle.std.proofs.Common.{string_bytes}
use Rattle.std.proofs.lemmas.Result.{on_ok_weaker}
use Rattle.timefd_lint.proofs.ManualLemmas.{reasoned}
use Rattle.timefd_lint.proofs.manual.push_reason.Goals as goal

pub returns : goal.returns
returns c =
    on_ok_weaker c.push_note.result
    (reasoned c.args.change c.args.version.now c.args.name.now c.args.source.now c.args.description.now
    c.in_ok-new.field-0 c.in-Some.new c.deref.result.now (string_bytes c.in_ok-literal.literal)
    c.deref-2.result.now (string_bytes c.in_ok-literal-2.literal) c.deref-3.result.now
    (string_bytes c.in_ok-why.why) c.deref-4.result.now (string_bytes c.args.notes.now)
    (string_bytes c.push_note.new.notes) c.in-Some.is c.in_ok-new.ensures.becomes c.deref.ensures
    c.in_ok-literal.ensures c.deref-2.ensures c.in_ok-literal-2.ensures c.deref-3.ensures c.in_ok-why.ensures
    c.deref-4.ensures) c.push_note.ensures
