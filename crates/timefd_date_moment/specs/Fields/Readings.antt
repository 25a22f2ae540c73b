-- How the fields take what one component reads.
use Rattle.std.specs.Prelude.{ℕ, ◌≡◌, ◌/◌, ◌-◌, ◌^◌, ◌==◌, Bool, true, false, not, nat_le, nat_lt, if◌then◌else◌, Option, Some, None}
use Rattle.timefd_date_moment.specs.declared.fields.fields.Fields.{Fields}
use Rattle.timefd_date_moment.specs.declared.fields.fields.Signed.{Signed}
use Rattle.timefd_date_moment.specs.declared.fields.fields.Fraction.{Fraction}
use Rattle.timefd_date_moment.specs.declared.fields.fields.Count.{Count}
use Rattle.timefd_date_moment.specs.declared.fields.fields.Amount.{Amount}
use Rattle.timefd_date_moment.specs.declared.fields.reading.Reading.{Reading}
use Rattle.timefd_date_moment.specs.declared.fields.reading.Reading.TheVariants as reads
use Rattle.timefd_date_moment.specs.Fields.Fields.{count, with_count, amount, with_amount}

abbrev pub same : Bool → Bool → Bool
same true b = b
same false b = not b

abbrev pub same_signed : Signed → Signed → Bool
same_signed a b = if same a.is_negative b.is_negative then a.magnitude == b.magnitude else false

-- How many nanoseconds one unit of the last digit is. With nine digits or more it is one nanosecond.
abbrev pub unit : ℕ → ℕ
unit digits = if nat_lt digits 9 then 10 ^ (9 - digits) else 1

-- Whether both fractions have the same digits, as far as the digits of both are known.
abbrev pub fewer : Fraction → Fraction → ℕ
fewer a b = if nat_le a.digits b.digits then a.digits else b.digits

abbrev pub agree : Fraction → Fraction → Bool
agree a b = a.nanosecond / unit (fewer a b) == b.nanosecond / unit (fewer a b)

-- The fraction with more known digits.
abbrev pub finer : Fraction → Fraction → Fraction
finer a b = if nat_le a.digits b.digits then b else a

-- What was read before has to be the same.
abbrev pub kept : Fields → Bool → Option Fields
kept f true = Some f
kept f false = None

abbrev pub with_fraction : Fields → Fraction → Fields
with_fraction f fraction = record f { subsecond = Some fraction }

abbrev pub with_finer : Fields → Fraction → Fraction → Option Fields
with_finer f before fraction =
    if agree before fraction then Some (with_fraction f (finer before fraction)) else None

abbrev pub count_with : Fields → Count → ℕ → Option ℕ → Option Fields
count_with f field n None = Some (with_count f field n)
count_with f field n (Some before) = kept f (before == n)

abbrev pub amount_with : Fields → Amount → Signed → Option Signed → Option Fields
amount_with f field n None = Some (with_amount f field n)
amount_with f field n (Some before) = kept f (same_signed before n)

abbrev pub period_with : Fields → Bool → Option Bool → Option Fields
period_with f is_afternoon None = Some (record f { is_afternoon = Some is_afternoon })
period_with f is_afternoon (Some before) = kept f (same before is_afternoon)

abbrev pub fraction_with : Fields → Fraction → Option Fraction → Option Fields
fraction_with f fraction None = Some (with_fraction f fraction)
fraction_with f fraction (Some before) = with_finer f before fraction

-- A field that is read twice has to have the same value. Fractions of a second are compared in the digits
-- that are known of both, and the longer one is kept.
abbrev pub with_reading : Fields → Reading → Option Fields
with_reading f (reads.Count field n) = count_with f field n (count f field)
with_reading f (reads.Amount field n) = amount_with f field n (amount f field)
with_reading f (reads.Period is_afternoon) = period_with f is_afternoon f.is_afternoon
with_reading f (reads.Fraction fraction) = fraction_with f fraction f.subsecond
with_reading f reads.Nothing = Some f

-- Whether what was read agrees with what was read before, and the fields with it if so.
abbrev pub Takes : Option Fields → Fields → Bool → Type 0
Takes taken f true = taken ≡ Some f
Takes taken f false = taken ≡ None
