use Rattle.std.proofs.Common.{◌∙◌, refl, sym}
use Rattle.timefd_format.proofs.SpelledLemmas.{date_alone, date_and_time_if, no_length}
use Rattle.timefd_format.proofs.fast.spelled.moment_spelled.Goals as goal

pub returns-then-is_empty : goal.returns-then-is_empty
returns-then-is_empty c =
    date_alone c.args.text.now c.in_ok-date.rest.now c.in_ok-date.date _ c.in_ok-date.ensures
    (no_length _ (sym c.is_empty.ensures ∙ c.if-is_empty.true)) refl refl refl

pub returns : goal.returns
returns c =
    date_and_time_if c.args.text.now c.in_ok-date.rest.now c.in_ok-after_separator.field-0 c.in_ok-date.date
    c.moment_at.result c.in_ok-date.ensures c.in_ok-after_separator.ensures c.moment_at.ensures
