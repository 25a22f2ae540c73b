-- Years that were read, counted from the year -1,000,000.
use Rattle.std.specs.Prelude.{ℕ, ◌+◌, ◌-◌, ◌*◌, min, Bool, true, false, Option, Some, None}
use Rattle.timefd_date_moment.specs.declared.fields.fields.Signed.{Signed}

-- the year with this sign and magnitude; a year too far from 0 becomes one that no date has
abbrev pub years_of : Bool → ℕ → ℕ
years_of true m = 1000000 - min m 1000000
years_of false m = 1000000 + min m 1000000

abbrev pub years_of_century : Option Signed → Option ℕ → Option ℕ
years_of_century None last_two = None
years_of_century (Some c) None = None
years_of_century (Some c) (Some n) = Some (years_of c.is_negative (min c.magnitude 10000 * 100 + n))

-- the year, read whole, or as its century and its last two digits
abbrev pub years_read : Option Signed → Option Signed → Option ℕ → Option ℕ
years_read (Some y) century last_two = Some (years_of y.is_negative y.magnitude)
years_read None century last_two = years_of_century century last_two
