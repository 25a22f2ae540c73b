-- The moment that is read from a text, and the parts that jiff's grammar finds in it.
use Rattle.std.specs.Prelude.{◌≡◌, ℤ, Option, Some, None, option_map, Result, Ok, Err, ⊤}
use Rattle.jiff_core.specs.declared.error.Error.{Error}
use Rattle.jiff_fmt.specs.Temporal.{DateParts, TimeParts, PiecesParts, piece_seconds}
use Rattle.timefd_date_moment.specs.declared.date.Date.{Date}
use Rattle.timefd_date_moment.specs.declared.time.Time.{Time}
use Rattle.timefd_date_moment.specs.declared.offset.UtcOffset.{UtcOffset}
use Rattle.timefd_date_moment.specs.declared.moment.Moment.{Moment}
use Rattle.timefd_date_moment.specs.Calendar.{counted}
use Rattle.timefd_date_moment.specs.Signed.{signed}

abbrev pub IsDateRead : DateParts → Option Date → Type 0
IsDateRead p (Some d) = (d.years ≡ counted p.year) × (d.month ≡ p.month) × (d.day ≡ p.day)
IsDateRead p None = ⊥

abbrev pub IsTimeRead : Option TimeParts → Option Time → Type 0
IsTimeRead None None = ⊤
IsTimeRead None (Some t) = ⊥
IsTimeRead (Some p) None = ⊥
IsTimeRead (Some p) (Some t) =
    (t.hour ≡ p.hour) × (t.minute ≡ p.minute) × (t.second ≡ p.second) × (t.nanosecond ≡ p.subsec)

-- the offset with these seconds, if there is one
abbrev pub IsOffsetRead : Option ℤ → Option UtcOffset → Type 0
IsOffsetRead None None = ⊤
IsOffsetRead None (Some o) = ⊥
IsOffsetRead (Some s) None = ⊥
IsOffsetRead (Some s) (Some o) = signed o.is_negative o.seconds ≡ s

abbrev pub AreRead : PiecesParts → Moment → Type 0
AreRead p m =
    IsDateRead p.date m.date × IsTimeRead p.time m.time
    × IsOffsetRead (option_map piece_seconds p.offset) m.offset

-- the moment that was written, or what is wrong with the text
abbrev pub IsRead : Result PiecesParts Error → Result Moment Error → Type 0
IsRead (Ok p) (Ok m) = AreRead p m
IsRead (Ok p) (Err e) = ⊥
IsRead (Err f) (Ok m) = ⊥
IsRead (Err f) (Err e) = e ≡ f
