-- Numbers that are read without fields.
use Rattle.std.specs.Prelude.{ℕ, false, Option, Some, None, ⊤}
use Rattle.timefd_lang_component.specs.Tree.{Text}
use Rattle.timefd_date_moment.specs.declared.fields.fields.Fields.{Fields}
use Rattle.timefd_date_moment.specs.declared.fields.fields.Signed.{Signed}
use Rattle.timefd_date_moment.specs.declared.fields.reading.Reading.{Reading}
use Rattle.timefd_date_moment.specs.declared.fields.short.Numbers.{Numbers}
use Rattle.timefd_date_moment.specs.Fields.Fields.{no_fields}
use Rattle.timefd_date_moment.specs.Fields.Reads.{TakesFront}

abbrev pub whole_year : Option ℕ → Option Signed
whole_year None = None
whole_year (Some year) = Some (record { is_negative = false; magnitude = year })

-- The fields if these numbers were read, and nothing else.
abbrev pub fields_with : Numbers → Fields
fields_with n = record no_fields {
  year = whole_year n.year;
  month = n.month;
  day = n.day;
  hour = n.hour;
  minute = n.minute;
  second = n.second;
}

-- What is taken is read at the start, and the numbers have it. `None` says nothing about the text.
abbrev pub TakesNumber : Option (Reading × ℕ) → Text → Numbers → Option (ℕ × Numbers) → Type 0
TakesNumber read text old None = ⊤
TakesNumber read text old (Some r) = TakesFront read text (fields_with old) (fields_with r.1) (Some r.0)
