-- For which moments pieces write the same.
use Rattle.std.specs.Prelude.{ℕ, true, false, max, List, [], ◌∷◌}
use Rattle.timefd_lang_dialect.specs.declared.limits.Limits.{Limits}
use Rattle.timefd_lang_dialect.specs.declared.row.Range.{Range}
use Rattle.timefd_lang_dialect.specs.declared.row.Range.TheVariants.{Years0To9999, YearsFrom1, YearsFrom100, YearsFrom1000, From1970, WholeMinutes}
use Rattle.timefd_lang_dialect.specs.Reading.{Piece}

-- the limits that every moment of the years 0 to 9999 meets
abbrev pub all_limits : Limits
all_limits = record { first_year = 0; whole_minutes = false }

abbrev pub from_year : ℕ → Limits → Limits
from_year year limits =
    record { first_year = max year limits.first_year; whole_minutes = limits.whole_minutes }

-- the limits, and a range's too
abbrev pub narrowed : Range → Limits → Limits
narrowed Years0To9999 limits = limits
narrowed YearsFrom1 limits = from_year 1 limits
narrowed YearsFrom100 limits = from_year 100 limits
narrowed YearsFrom1000 limits = from_year 1000 limits
narrowed From1970 limits = from_year 1970 limits
narrowed WholeMinutes limits = record { first_year = limits.first_year; whole_minutes = true }

-- the limits, and those of the range of each piece too
abbrev pub limits_from : Limits → List Piece → Limits
limits_from limits [] = limits
limits_from limits (p ∷ ps) = limits_from (narrowed p.range limits) ps
