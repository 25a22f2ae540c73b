-- What in a format often means something other than its writer believes.
use Rattle.std.specs.Prelude.{ℕ, ◌≡◌, ◌<◌, ◌+◌, ◌-◌, ◌==◌, Bool, true, false, not, if◌then◌else◌, List, [], ◌∷◌, ◌++◌, drop, length, Option, Some, None}
use Rattle.timefd_lang_component.specs.Tree.{Text}
use Rattle.timefd_lang_dialect.specs.declared.dialect.Dialect.{Dialect}
use Rattle.timefd_lang_dialect.specs.declared.dialect.Quoting.{Quoting}
use Rattle.timefd_lang_dialect.specs.declared.dialect.Quoting.TheVariants.{Unquoted, Apostrophes, Brackets}
use Rattle.timefd_lang_dialect.specs.declared.role.Role.{Role}
use Rattle.timefd_lang_dialect.specs.declared.role.Role.TheVariants.{Other, Year, YearOfTwoDigits, WeekYear, Month, Day, DayOfYear, HourOf24, HourOf12, Period, Minute, Second, TwoLetterWeekday, WeekdayFromZero, Panic}
use Rattle.timefd_lang_dialect.specs.declared.spot.Spot.{Spot}
use Rattle.timefd_lang_dialect.specs.declared.trap.Trap.{Trap}
use Rattle.timefd_lang_dialect.specs.declared.trapping.Beside.{Beside}
use Rattle.timefd_lang_dialect.specs.declared.trapping.Found.{Found}
use Rattle.timefd_lang_dialect.specs.declared.trapping.Present.{Present}
use Rattle.timefd_lang_dialect.specs.Dialects.{quoting_of}
use Rattle.timefd_lang_dialect.specs.Quotes.{char_len, apostrophe, quotation, closing}
use Rattle.timefd_lang_dialect.specs.Roles.{role_of}
use Rattle.timefd_lang_dialect.specs.Rows.{Entry, longest}
use Rattle.timefd_lang_dialect.specs.Tables.{rows_of}
use Rattle.timefd_language.specs.Bytes.{left}

-- The parts of a format, including refused ones.

-- What a part says, if it is a directive, and what follows it.
pub record Said : Type 0 where
  pub role : Option Role
  pub rest : Text

abbrev pub literal_before : Text → Said
literal_before rest = record { role = None; rest = rest }

-- the longest row, or a literal character
abbrev pub said_row : Dialect → Option Entry → Text → Said
said_row dialect None text = literal_before (drop (char_len text) text)
said_row dialect (Some row) text =
    record { role = Some (role_of dialect row); rest = drop (length row.text) text }

-- what is between apostrophes, or everything if no apostrophe closes it
abbrev pub said_quotation : Option (Text × Text) → Said
said_quotation None = literal_before []
said_quotation (Some x) = literal_before x.1

abbrev pub said_closing : Option ℕ → Text → Said → Said
said_closing None rest other = other
said_closing (Some index) rest other = literal_before (drop (index + 1) rest)

abbrev pub said_quote : Quoting → ℕ → Text → Said → Said
said_quote Unquoted b rest other = other
said_quote Apostrophes b rest other =
    if b == apostrophe then said_quotation (quotation rest) else other
said_quote Brackets b rest other =
    if b == left then said_closing (closing rest) rest other else other

-- the part at the front of a text
abbrev pub said_at : Dialect → Text → Said
said_at dialect [] = literal_before []
said_at dialect (b ∷ rest) =
    said_quote (quoting_of dialect) b rest
    (said_row dialect (longest (rows_of dialect) (b ∷ rest)) (b ∷ rest))

-- the text is these parts, and then the rest
abbrev pub Splits : Dialect → Text → List Said → Text → Type 0
Splits dialect text [] rest = text ≡ rest
Splits dialect text (p ∷ ps) rest =
    (0 < length text) × (said_at dialect text ≡ p) × Splits dialect p.rest ps rest

-- Where the directives are.

-- the part between two indices, if it is a directive
abbrev pub spot_between : Option Role → ℕ → ℕ → List Spot
spot_between None start end = []
spot_between (Some role) start end = record { role = role; start = start; end = end } ∷ []

-- the directives among parts of the text, at the end of a format of `len` bytes
abbrev pub spots_of : ℕ → Text → List Said → List Spot
spots_of len text [] = []
spots_of len text (p ∷ ps) =
    spot_between p.role (len - length text) (len - length p.rest) ++ spots_of len p.rest ps

-- these are the directives of the format
abbrev pub AreSpots : Dialect → Text → List Spot → Type 0
AreSpots dialect format spots =
    (parts : List Said) × Splits dialect format parts []
    × (spots ≡ spots_of (length format) format parts)

-- Which directives are traps.

abbrev pub with_role : Role → Present → Present
with_role Month p = record { month = true; period = p.period; year = p.year }
with_role Period p = record { month = p.month; period = true; year = p.year }
with_role Year p = record { month = p.month; period = p.period; year = true }
with_role WeekYear p = record { month = p.month; period = p.period; year = true }
with_role _ p = p

abbrev pub present_from : Present → List Spot → Present
present_from p [] = p
present_from p (s ∷ ss) = present_from (with_role s.role p) ss

-- whether there is a month, something that writes AM or PM, and a year with its century
abbrev pub present_in : List Spot → Present
present_in spots = present_from (record { month = false; period = false; year = false }) spots

abbrev pub beside_of : Role → Beside
beside_of Day = Beside.Day
beside_of HourOf24 = Beside.Hour
beside_of HourOf12 = Beside.Hour
beside_of Minute = Beside.Minute
beside_of _ = Beside.Other

abbrev pub first_beside : List Spot → Beside
first_beside [] = Beside.Other
first_beside (s ∷ ss) = beside_of s.role

abbrev pub where_it_is : Bool → Trap → Option Trap
where_it_is is_there trap = if is_there then Some trap else None

-- the minute is beside a day, with no hour before it
abbrev pub minute_trap : Beside → Beside → Option Trap
minute_trap Beside.Day after = Some Trap.MinuteBesideDay
minute_trap Beside.Hour after = None
minute_trap Beside.Minute Beside.Day = Some Trap.MinuteBesideDay
minute_trap Beside.Minute _ = None
minute_trap Beside.Other Beside.Day = Some Trap.MinuteBesideDay
minute_trap Beside.Other _ = None

-- a minute follows the second
abbrev pub second_trap : Beside → Option Trap
second_trap Beside.Minute = Some Trap.SecondBeforeMinute
second_trap _ = None

-- the trap that a directive is, by its neighbours and by all directives of the format
abbrev pub trap_of : Present → Beside → Role → Beside → Option Trap
trap_of p before Other after = None
trap_of p before Year after = None
trap_of p before YearOfTwoDigits after = where_it_is (not p.year) Trap.YearWithoutCentury
trap_of p before WeekYear after = where_it_is p.month Trap.WeekYearBesideMonth
trap_of p before Month after = None
trap_of p before Day after = None
trap_of p before DayOfYear after = where_it_is p.month Trap.DayOfYearBesideMonth
trap_of p before HourOf24 after = None
trap_of p before HourOf12 after = where_it_is (not p.period) Trap.HourWithoutPeriod
trap_of p before Period after = None
trap_of p before Minute after = minute_trap before after
trap_of p before Second after = second_trap after
trap_of p before TwoLetterWeekday after = Some Trap.TwoLetterWeekday
trap_of p before WeekdayFromZero after = Some Trap.WeekdayFromZero
trap_of p before Panic after = Some Trap.Panic

abbrev pub found_at : Spot → Option Trap → List Found
found_at s None = []
found_at s (Some trap) = record { trap = trap; start = s.start; end = s.end } ∷ []

-- the traps of the remaining directives
abbrev pub found_from : Present → Beside → List Spot → List Found
found_from p before [] = []
found_from p before (s ∷ ss) =
    found_at s (trap_of p before s.role (first_beside ss)) ++ found_from p (beside_of s.role) ss

abbrev pub traps_in : List Spot → List Found
traps_in spots = found_from (present_in spots) Beside.Other spots

-- these are the traps of the format, in order
abbrev pub AreTraps : Dialect → Text → List Found → Type 0
AreTraps dialect format found =
    (spots : List Spot) × AreSpots dialect format spots × (found ≡ traps_in spots)
