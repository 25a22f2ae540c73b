use Rattle.std.proofs.Common.{string_bytes, subst}
use Rattle.timefd_lang_dialect.specs.Answers.{IsRefusedFor}
use Rattle.timefd_lint.proofs.LimitedLemmas.{of_refusal}
use Rattle.timefd_lint.proofs.limited.push_text_note.Goals as goal

pub returns-in-Err-Refused : goal.returns-in-Err-Refused
returns-in-Err-Refused c =
    of_refusal c.args.dialect c.args.file.now c.args.number c.args.text.now (string_bytes c.args.notes.now)
    c.in-Err-Refused._refusal
    (subst (λ error. IsRefusedFor c.args.dialect c.args.text.now error) c.in-Err-Refused.field-0-is
    c.in-Err-Refused.ensures.fault)
