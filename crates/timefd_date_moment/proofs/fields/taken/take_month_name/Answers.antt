use Rattle.std.proofs.Common.{sym}
use Rattle.timefd_date_moment.specs.declared.fields.fields.Count.{Count}
use Rattle.timefd_date_moment.specs.Fields.Short.{fields_with}
use Rattle.timefd_date_moment.proofs.FieldsLemmas.QuickLemmas.{name_taken}
use Rattle.timefd_date_moment.proofs.fields.taken.take_month_name.Goals as goal

pub returns : goal.returns
returns c =
    name_taken Count.Month c.args.names c.args.is_case_sensitive 1 c.in_ok-found.found.0 c.in_ok-found.found.1
    c.args.text.now (fields_with c.args.numbers) (fields_with c.in_ok-after.after) (sym c.in_ok-found.ensures.value)
    c.in_ok-found.ensures.within c.in_ok-after.ensures
