use Rattle.std.proofs.Common.{◌∙◌, ap, refl, Some, None}
use Rattle.timefd_lang_dialect.specs.Dialects.{unknown_rows}
use Rattle.timefd_lang_dialect.specs.Groups.{first_standing}
use Rattle.timefd_lang_dialect.specs.Rows.{entry_of, found_entry}
use Rattle.timefd_lang_dialect.proofs.GroupLemmas.{found_is_longest}
use Rattle.timefd_lang_dialect.proofs.longest.first_of_both.Goals as goal

pub returns-in-Some : goal.returns-in-Some
returns-in-Some c =
    let text = c.args.text.now in
    found_is_longest c.args.dialect text (Some (entry_of c.in-Some.row.now)) _
    (c.in-Some.ensures ∙ ap (λ rows. first_standing rows text) c.rows_at_front.ensures) refl

pub returns-in-None : goal.returns-in-None
returns-in-None c =
    let text = c.args.text.now in
    found_is_longest c.args.dialect text None (found_entry c.first-in-None.result)
    (c.in-None.ensures ∙ ap (λ rows. first_standing rows text) c.rows_at_front.ensures)
    (c.first-in-None.ensures
    ∙ ap (λ rows. first_standing rows text)
    (c.unknown_rows.ensures ∙ ap unknown_rows c.leading.ensures))
