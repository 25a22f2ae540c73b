-- Moments in their usual forms.
use Rattle.std.specs.Prelude.{ℕ, ℤ, pos, ◌≡◌, ◌⊎◌, Bool, true, false, List, [], ◌∷◌, Option, Some, None, option_map, Result, Ok, Err, if◌then◌else◌}
use denote.Ref.{Bor}
use Rattle.std.specs.Char.{is_ascii_digit}
use Rattle.jiff_fmt.specs.declared.offset.Numeric.{Numeric}
use Rattle.jiff_fmt.specs.declared.offset.ParsedOffset.{ParsedOffset}
use Rattle.jiff_fmt.specs.Offset.{datetime_parser, numeric_seconds, parse_numeric, parse_optional}
use Rattle.jiff_fmt.specs.Reader.{temporal_fraction}
use Rattle.jiff_fmt.specs.Temporal.{DateParts, OffsetPiece, PiecesParts, TimeParts, date_spec, each, offset_piece, parse_pieces, piece_seconds, time_part, time_spec}
use Rattle.timefd_lang_component.specs.Tree.{Text}
use Rattle.timefd_format.specs.FromJiff.Read.{AreRead, IsDateRead, IsOffsetRead, IsTimeRead}
use Rattle.timefd_date_moment.specs.declared.date.Date.{Date}
use Rattle.timefd_date_moment.specs.declared.moment.Moment.{Moment}
use Rattle.timefd_date_moment.specs.declared.offset.UtcOffset.{UtcOffset}
use Rattle.timefd_date_moment.specs.declared.time.Time.{Time}
use Rattle.timefd_date_moment.specs.Signed.{signed}

-- A digit begins the text.
abbrev pub begins_with_digit : Text → Bool
begins_with_digit [] = false
begins_with_digit (c ∷ rest) = is_ascii_digit c

-- The text begins with this date, and this follows it.
abbrev pub IsDateSpelled : Text → Date → Text → Type 0
IsDateSpelled text d rest = (p : DateParts) × (date_spec text ≡ Ok (p, rest)) × IsDateRead p (Some d)
    × (begins_with_digit text ≡ true)

-- The text begins with this time of day, and this follows it, if that is no fraction of the second.
abbrev pub IsTimeSpelled : Text → Time → Text → Type 0
IsTimeSpelled text t rest = (p : TimeParts) × IsTimeRead (Some p) (Some t)
    × (temporal_fraction rest ≡ Ok (None, rest) → time_spec text ≡ Ok ((p, true), rest))

-- A letter or a space is between a date and a time of day, and this follows it.
abbrev pub IsAfterSeparator : Text → Bor Text → Type 0
IsAfterSeparator text rest = (text ≡ 84 ∷ rest.now) ⊎ (text ≡ 32 ∷ rest.now)

abbrev pub sign_of : Bool → ℕ
sign_of is_minus = if is_minus then 45 else 43

-- With a sign in front, the whole text is this offset.
abbrev pub IsOffsetSpelledAfter : Bool → Text → UtcOffset → Type 0
IsOffsetSpelledAfter is_minus text o = (n : Numeric)
    × (parse_numeric datetime_parser (sign_of is_minus ∷ text) ≡ Ok (n, []))
    × (numeric_seconds n ≡ Ok (signed o.is_negative o.seconds))

-- The whole text is this offset, or nothing. It is no fraction of a second.
abbrev pub IsOffsetSpelled : Text → Option UtcOffset → Type 0
IsOffsetSpelled text o = (parsed : Option ParsedOffset) × (piece : Option OffsetPiece)
    × (parse_optional datetime_parser text ≡ Ok (parsed, [])) × (each offset_piece parsed ≡ Ok piece)
    × IsOffsetRead (option_map piece_seconds piece) o
    × (temporal_fraction text ≡ Ok (None, text))

-- The moment has this date, and the whole text is its time of day and its offset.
abbrev pub IsTimeSpelledAfter : Date → Text → Moment → Type 0
IsTimeSpelledAfter d text m = (t : TimeParts) × (parsed : Option ParsedOffset) × (piece : Option OffsetPiece)
    × (m.date ≡ Some d) × IsTimeRead (Some t) m.time × IsOffsetRead (option_map piece_seconds piece) m.offset
    × (each offset_piece parsed ≡ Ok piece)
    × ((p : DateParts) → time_part p text
    ≡ Ok (record { date = p; time = Some t; offset = parsed; zone = None }, []))

-- A digit begins the text, and jiff's grammar reads this moment, and no time zone in brackets.
abbrev pub IsSpelled : Text → Moment → Type 0
IsSpelled text m = (p : PiecesParts) × (parse_pieces text ≡ Ok p) × AreRead p m × (p.zone ≡ None)
    × (begins_with_digit text ≡ true)
