use Rattle.timefd_date_moment.proofs.FieldsLemmas.DigitLemmas.{digit_unsigned}
use Rattle.timefd_date_moment.proofs.fields.digits.four_digits.Goals as goal

pub returns-clause-unsigned : goal.returns-clause-unsigned
returns-clause-unsigned c = digit_unsigned c.args.text.now _ c.in_ok-thousands.ensures
