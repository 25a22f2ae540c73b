use Rattle.std.proofs.Common.{rules, ◌≡◌, true, false, string_bytes}
use Rattle.std.proofs.lemmas.Result.{IfOk-weaker}
use Rattle.timefd_lint.proofs.ManualLemmas.{noted_all, silent}
use Rattle.timefd_lint.proofs.manual.notes.Goals as goal

pub returns-then-not-any_wants_hand : goal.returns-then-not-any_wants_hand
returns-then-not-any_wants_hand c =
    let none : c.any_wants_hand.result ≡ false = search rules in
    silent c.args.change c.args.name.now c.args.source.now c.args.calls.now c.args.outcomes.now c.version_of.result
    c.in-Some.version c.any_wants_hand.result _ c.version_of.ensures c.in-Some.is c.any_wants_hand.ensures none
    c.new-then-not-any_wants_hand.ensures.bytes

pub returns : goal.returns
returns c =
    let some : c.any_wants_hand.result ≡ true = search rules in
    IfOk-weaker c.notes_on.result _ _
    (λ notes. noted_all c.args.change c.args.name.now c.args.source.now c.args.calls.now c.args.outcomes.now c.version_of.result
    c.in-Some.version c.any_wants_hand.result c.in_ok-descriptions.descriptions.items c.deref.result.now
    c.version_of.ensures c.in-Some.is c.any_wants_hand.ensures some c.in_ok-descriptions.ensures.all
    c.deref.ensures.value (string_bytes notes)) c.notes_on.ensures
