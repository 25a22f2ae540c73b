use Rattle.std.proofs.Common.{◌∙◌, sym}
use Rattle.std.proofs.lemmas.Result.{IfOk-weaker}
use Rattle.std.specs.List.{slice_index}
use Rattle.timefd_lang_dialect.proofs.AskedLemmas.{escape_taken, plain_taken}
use Rattle.timefd_lang_dialect.proofs.reversed.push_unescaped.Goals as goal

pub returns-then-begins_with : goal.returns-then-begins_with
returns-then-begins_with c =
    IfOk-weaker c.push_escaped.result _ _
    (λ rest takes. escape_taken (slice_index c.args.text.now 0) c.args.text.now c.tail.result.now _ _ rest
    c.tail.ensures.rest (sym c.begins_with.ensures ∙ c.if-begins_with.true) takes)
    c.push_escaped.ensures

pub returns : goal.returns
returns c =
    plain_taken c.args.text.now c.in-Some.character.now _ _ c.in-Some.rest c.in-Some.ensures
    c.requires (sym c.begins_with.ensures ∙ c.if-begins_with.false)
    c.in_ok-push_str-in-Some.ensures.bytes
