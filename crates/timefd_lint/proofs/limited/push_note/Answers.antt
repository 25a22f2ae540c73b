use Rattle.std.proofs.Common.{rules, ◌≡◌, false, string_bytes}
use Rattle.std.proofs.lemmas.Result.{on_ok_weaker}
use Rattle.timefd_lint_rewrite.specs.Lines.{is_passed_over}
use Rattle.timefd_lint.proofs.LimitedLemmas.{of_text}
use Rattle.timefd_lint.proofs.limited.push_note.Goals as goal

pub returns-in-Ok : goal.returns-in-Ok
returns-in-Ok c =
    let kept : is_passed_over c.args.comment c.without_newline-text.result.now ≡ false = search rules in
    on_ok_weaker c.push_text_note.result
    (of_text c.args.comment c.args.dialect c.args.file.now c.args.number c.args.line.now
    c.without_newline-text.result.now c.in-Ok.text.now (string_bytes c.args.notes.now)
    (string_bytes c.push_text_note.new.notes) c.without_newline-text.ensures kept c.in-Ok.ensures.cases.0)
    c.push_text_note.ensures
