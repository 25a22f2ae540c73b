-- What a component reads at the start of a text: its value, and how many bytes it takes.
use Rattle.std.specs.Prelude.{ℕ, ◌+◌, ◌-◌, ◌*◌, ◌%◌, ◌==◌, Bool, true, false, nat_le, if◌then◌else◌, length, Option, Some, None}
use Rattle.timefd_modifier.specs.declared.enums.Padding.{Padding}
use Rattle.timefd_modifier.specs.declared.enums.SubsecondDigits.{SubsecondDigits}
use Rattle.timefd_modifier.specs.declared.enums.TrailingInput.{TrailingInput}
use Rattle.timefd_lang_component.specs.Reserved as reserved
use Rattle.timefd_lang_component.specs.Tree.{Text}
use Rattle.timefd_date_moment.specs.declared.fields.fields.Count.{Count}
use Rattle.timefd_date_moment.specs.declared.fields.fields.Amount.{Amount}
use Rattle.timefd_date_moment.specs.declared.fields.fields.Signed.{Signed}
use Rattle.timefd_date_moment.specs.declared.fields.reading.Reading.{Reading}
use Rattle.timefd_date_moment.specs.declared.fields.reading.Reading.TheVariants as reads
use Rattle.timefd_date_moment.specs.declared.fields.rule.FieldRule.{FieldRule}
use Rattle.timefd_date_moment.specs.declared.fields.rule.FieldRule.TheVariants as by
use Rattle.timefd_date_moment.specs.declared.fields.rule.NameList.{NameList}
use Rattle.timefd_date_moment.specs.declared.fields.rule.NumberForm.{NumberForm}
use Rattle.timefd_date_moment.specs.Fields.Numbers.{digits, padded, within, signed}
use Rattle.timefd_date_moment.specs.Fields.Names.{listed, name_from}
use Rattle.timefd_date_moment.specs.Fields.Readings.{unit}

-- numbers

abbrev pub as_count : Count → Option (ℕ × ℕ) → Option (Reading × ℕ)
as_count field None = None
as_count field (Some r) = Some (reads.Count field r.0, r.1)

abbrev pub number : Count → Padding → ℕ → ℕ → ℕ → Text → Option (Reading × ℕ)
number field padding width lowest highest text =
    as_count field (within lowest highest (padded padding width width text))

abbrev pub as_amount : Amount → Option (Signed × ℕ) → Option (Reading × ℕ)
as_amount field None = None
as_amount field (Some r) = Some (reads.Amount field r.0, r.1)

abbrev pub amount : Amount → Bool → NumberForm → Text → Option (Reading × ℕ)
amount field is_mandatory form text = as_amount field (signed is_mandatory form text)

-- weekdays by number, as days after Monday

abbrev pub after_monday : Bool → ℕ → ℕ
after_monday true days = (days + 6) % 7
after_monday false days = days

abbrev pub first_number : Bool → ℕ
first_number true = 1
first_number false = 0

abbrev pub as_weekday : Bool → ℕ → Option (ℕ × ℕ) → Option (Reading × ℕ)
as_weekday is_sunday_first first None = None
as_weekday is_sunday_first first (Some r) =
    Some (reads.Count Count.Weekday (after_monday is_sunday_first (r.0 - first)), r.1)

abbrev pub weekday : Bool → Bool → Text → Option (Reading × ℕ)
weekday is_sunday_first is_one_indexed text = as_weekday is_sunday_first (first_number is_one_indexed)
    (within (first_number is_one_indexed) (first_number is_one_indexed + 6) (digits 1 1 text))

-- names, by their index in the list

abbrev pub as_name : Count → ℕ → Option (ℕ × ℕ) → Option (Reading × ℕ)
as_name field first None = None
as_name field first (Some r) = Some (reads.Count field (first + r.0), r.1)

abbrev pub name : Count → NameList → Bool → ℕ → Text → Option (Reading × ℕ)
name field names is_case_sensitive first text =
    as_name field first (name_from 0 is_case_sensitive (listed names) text)

abbrev pub as_period : Option (ℕ × ℕ) → Option (Reading × ℕ)
as_period None = None
as_period (Some r) = Some (reads.Period (r.0 == 1), r.1)

abbrev pub period : NameList → Bool → Text → Option (Reading × ℕ)
period names is_case_sensitive text = as_period (name_from 0 is_case_sensitive (listed names) text)

-- digits of a second, as nanoseconds

abbrev pub digits_shown : SubsecondDigits → ℕ
digits_shown shown = reserved.digits_shown shown

abbrev pub least_digits : SubsecondDigits → ℕ
least_digits SubsecondDigits.OneOrMore = 1
least_digits SubsecondDigits.One = 1
least_digits SubsecondDigits.Two = 2
least_digits SubsecondDigits.Three = 3
least_digits SubsecondDigits.Four = 4
least_digits SubsecondDigits.Five = 5
least_digits SubsecondDigits.Six = 6
least_digits SubsecondDigits.Seven = 7
least_digits SubsecondDigits.Eight = 8
least_digits SubsecondDigits.Nine = 9

abbrev pub as_fraction : ℕ → Option (ℕ × ℕ) → Option (Reading × ℕ)
as_fraction known None = None
as_fraction known (Some r) =
    Some (reads.Fraction (record { digits = known; nanosecond = r.0 * unit r.1 }), r.1)

-- If the modifier asks for one digit or more, they are the whole fraction: then all nine digits are known.
abbrev pub fraction : SubsecondDigits → Text → Option (Reading × ℕ)
fraction shown text = as_fraction (digits_shown shown) (digits (least_digits shown) (digits_shown shown) text)

-- what shows nothing

abbrev pub ignored : ℕ → Text → Option (Reading × ℕ)
ignored count text = if nat_le count (length text) then Some (reads.Nothing, count) else None

abbrev pub end : TrailingInput → Text → Option (Reading × ℕ)
end TrailingInput.Prohibit text = if length text == 0 then Some (reads.Nothing, 0) else None
end TrailingInput.Discard text = Some (reads.Nothing, length text)

abbrev pub input : FieldRule → Text → Option (Reading × ℕ)
input (by.Number field padding width lowest highest) text =
    number field padding width lowest highest text
input (by.Weekday is_sunday_first is_one_indexed) text = weekday is_sunday_first is_one_indexed text
input (by.Name field names is_case_sensitive first) text = name field names is_case_sensitive first text
input (by.Period names is_case_sensitive) text = period names is_case_sensitive text
input (by.Signed field is_mandatory form) text = amount field is_mandatory form text
input (by.Fraction shown) text = fraction shown text
input (by.Ignore count) text = ignored count text
input (by.End trailing_input) text = end trailing_input text
input by.Deprecated text = None
