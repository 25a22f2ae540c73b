-- Moments in their usual forms, as jiff's grammar reads them.
use Rattle.std.proofs.Common.{zero, suc, not, if◌then◌else◌, ℕ, ℤ, pos, ◌≡◌, ◌≢◌, ◌∙◌, ◌+◌, ◌*◌, ◌<◌, ◌≤◌, ◌==◌, ◌||◌, ◌&&◌, ◌⊎◌, inl, inr, Bool, true, false, List, [], ◌∷◌, length, Option, Some, None, IfSome, option_map, Result, Ok, Err, nat_lt, refl, sym, ap, subst, arith}
use Rattle.std.specs.Prelude.{⊤}
use Rattle.std.specs.Char.{is_ascii_digit}
use Rattle.std.proofs.lemmas.Grind.{common_steps}
use Rattle.std.proofs.lemmas.Bool.Decides.{nat_tests}
use denote.Ref.{Bor}
use Rattle.std.proofs.lemmas.Int.{ints}
use Rattle.jiff_core.specs.Calendar.{IsYear, days_in_month as jiff_days, is_leap_year}
use Rattle.jiff_core.specs.Sign.{signed as signed_by}
use Rattle.jiff_core.specs.declared.error.Bound.{Bound as Limit}
use Rattle.jiff_core.specs.declared.error.Bound.TheVariants as Bound
use Rattle.jiff_core.specs.declared.error.Syntax.{Syntax as Lack}
use Rattle.jiff_core.specs.declared.error.Syntax.TheVariants as Syntax
use Rattle.jiff_fmt.proofs.Cases.{by_bool}
use Rattle.jiff_fmt.proofs.TemporalLemmas.{date_spec-ok}
use Rattle.jiff_fmt.specs.declared.offset.Numeric.{Numeric}
use Rattle.jiff_fmt.specs.declared.offset.ParsedOffset.{ParsedOffset}
use Rattle.jiff_fmt.specs.declared.offset.ParsedOffset.TheVariants.{Zulu, Numeric as Written}
use Rattle.jiff_fmt.specs.Offset.{datetime_parser, numeric_seconds, parse, parse_numeric, parse_optional}
use Rattle.jiff_fmt.specs.Reader.{field, four_digits, temporal_fraction, two_digits}
use Rattle.jiff_fmt.specs.Rfc9557 as Rfc9557
use Rattle.jiff_fmt.specs.Temporal.{DateParts, DateTimeParts, OffsetPiece, zulu as zulu_piece, written, PiecesParts, TimeParts, date_spec, each, offset_piece, parse_pieces, piece_seconds, temporal_datetime, time_part, time_spec, to_pieces, year}
use Rattle.timefd_lang_component.specs.Tree.{Text}
use Rattle.timefd_format.proofs.JiffLemmas.LeapLemmas.{same_months}
use Rattle.timefd_format.specs.FromJiff.Read.{AreRead, IsDateRead, IsOffsetRead, IsTimeRead}
use Rattle.timefd_date_moment.specs.declared.date.Date.{Date}
use Rattle.timefd_date_moment.specs.declared.moment.Moment.{Moment}
use Rattle.timefd_date_moment.specs.declared.offset.UtcOffset.{UtcOffset}
use Rattle.timefd_date_moment.specs.declared.time.Time.{Time}
use Rattle.timefd_date_moment.specs.Calendar.{IsDay, counted, days_in_month}
use Rattle.timefd_date_moment.specs.Signed.{signed}
use Rattle.timefd_format.specs.Spelled.{IsAfterSeparator, IsDateSpelled, IsOffsetSpelled, IsOffsetSpelledAfter, IsSpelled, IsTimeSpelled, IsTimeSpelledAfter, begins_with_digit, sign_of}

-- Numbers of two digits.

field_is : (missing : Lack) (low high : ℕ) (bound : Limit) (text rest : Text) (n : ℕ)
    → two_digits text ≡ Some (n, rest) → low ≤ n → n ≤ high → field missing low high bound text ≡ Ok (n, rest)
unfolding field
field_is missing low high bound text rest n two least most =
    let inside : (nat_lt n low || nat_lt high n) ≡ false = grind (arith, nat_tests, common_steps, least, most) in
    rw (two, inside)

no_digits : {A : Type 0} (n : ℕ) (more : Text) → two_digits [] ≡ Some (n, more) → A
unfolding two_digits
no_digits n more two = absurd cc

-- The first of two digits is one.
first_digit : (c : ℕ) (cs more : Text) (n : ℕ) → two_digits (c ∷ cs) ≡ Some (n, more) → is_ascii_digit c ≡ true
unfolding two_digits
first_digit c [] more n two = absurd cc
first_digit c (d ∷ cs) more n two =
    by_bool (is_ascii_digit c) (λ is. is) (λ other. absurd (let e = rw other at two in cc))

pub digit_first : (text more : Text) (n : ℕ) → two_digits text ≡ Some (n, more) → begins_with_digit text ≡ true
digit_first [] more n two = no_digits n more two
digit_first (c ∷ cs) more n two = first_digit c cs more n two

-- A year, which has no sign, as a digit is none.
pub year_read : (text rest last : Text) (century low : ℕ) → two_digits text ≡ Some (century, rest)
    → two_digits rest ≡ Some (low, last) → year text ≡ Ok (pos (century * 100 + low), last)
unfolding year four_digits
year_read [] rest last century low two more = no_digits century rest two
year_read (c ∷ cs) rest last century low two more =
    let digit : is_ascii_digit c ≡ true = first_digit c cs rest century two in
    let plus : (c == 43) ≡ false = grind (arith, nat_tests, common_steps, digit) in
    let minus : (c == 45) ≡ false = grind (arith, nat_tests, common_steps, digit) in
    rw (plus, minus, two, more)

-- A date.

most : (a b c : Bool) → (if a then (if b then 29 else 28) else (if c then 30 else 31)) ≤ 31
most true true c = omega arith
most true false c = omega arith
most false b true = omega arith
most false b false = omega arith

days_most : (y : ℤ) (m : ℕ) → jiff_days y m ≤ 31
days_most y m = most (m == 2) (is_leap_year y) ((m == 4) || (m == 6) || (m == 9) || (m == 11))

date_is : (text b d rest : Text) (y : ℤ) (m day : ℕ) → year text ≡ Ok (y, 45 ∷ b)
    → two_digits b ≡ Some (m, 45 ∷ d) → two_digits d ≡ Some (day, rest) → 1 ≤ m → m ≤ 12 → 1 ≤ day
    → day ≤ jiff_days y m → date_spec text ≡ Ok (record { year = y; month = m; day = day }, rest)
date_is text b d rest y m day y_is m_is day_is m_least m_most day_least day_most =
    let within : nat_lt (jiff_days y m) day ≡ false = grind (arith, nat_tests, day_most) in
    let short : day ≤ 31 = omega (arith, day_most, days_most y m) in
    date_spec-ok text (45 ∷ b) b (45 ∷ d) d rest y m day y_is refl
    (field_is Syntax.Month 1 12 Bound.Month b (45 ∷ d) m m_is m_least m_most) refl
    (field_is Syntax.Day 1 31 Bound.Day d rest day day_is day_least short) within

pub date_read : (text a b c d rest : Text) (y m day : ℕ) (date : Date) → year text ≡ Ok (pos y, a) → y < 10000
    → begins_with_digit text ≡ true → a ≡ 45 ∷ b → two_digits b ≡ Some (m, c) → c ≡ 45 ∷ d → two_digits d ≡ Some (day, rest)
    → date.years ≡ counted (pos y) → date.month ≡ m → date.day ≡ day → IsDateSpelled text date rest
date_read text a b c d rest y m day date y_is small digit dash m_is again day_is years months days =
    let is : IsDay date.years date.month date.day = date.exists in
    let small_year : IsYear (pos y) = grind (arith, ints, small) in
    let long : day ≤ jiff_days (pos y) m =
    omega (arith, is.5, days, same_months (pos y) m small_year, ap (λ k. days_in_month k date.month) years, ap (days_in_month (counted (pos y))) months) in (
      record { year = pos y; month = m; day = day },
      date_is text b d rest (pos y) m day (y_is ∙ ap (λ t. Ok (pos y, t)) dash)
          (m_is ∙ ap (λ t. Some (m, t)) again) day_is (omega (arith, is.2, months)) (omega (arith, is.3, months))
          (omega (arith, is.4, days)) long,
      (years, months, days),
      digit,
    )

-- A time of day.

time_is : (text b d rest : Text) (h m s : ℕ) → two_digits text ≡ Some (h, 58 ∷ b)
    → two_digits b ≡ Some (m, 58 ∷ d) → two_digits d ≡ Some (s, rest) → h ≤ 23 → m ≤ 59 → s ≤ 59
    → temporal_fraction rest ≡ Ok (None, rest)
    → time_spec text ≡ Ok ((record { hour = h; minute = m; second = s; subsec = 0 }, true), rest)
unfolding time_spec
time_is text b d rest h m s h_is m_is s_is h_most m_most s_most none =
    let hour = field_is Syntax.Hour 0 23 Bound.Hour text (58 ∷ b) h h_is (omega arith) h_most in
    let minute = field_is Syntax.Minute 0 59 Bound.Minute b (58 ∷ d) m m_is (omega arith) m_most in
    let second = field_is Syntax.Second 0 60 Bound.LeapSecond d rest s s_is (omega arith) (omega (arith, s_most)) in
    let usual : (s == 60) ≡ false = grind (arith, nat_tests, s_most) in
    rw (hour, minute, second, usual, none)

pub time_read : (text a b c d rest : Text) (h m s : ℕ) (t : Time) → two_digits text ≡ Some (h, a) → a ≡ 58 ∷ b
    → two_digits b ≡ Some (m, c) → c ≡ 58 ∷ d → two_digits d ≡ Some (s, rest) → t.hour ≡ h → t.minute ≡ m
    → t.second ≡ s → t.nanosecond ≡ 0 → IsTimeSpelled text t rest
time_read text a b c d rest h m s t h_is colon m_is again s_is hours minutes seconds whole = (
  record { hour = h; minute = m; second = s; subsec = 0 },
  (hours, minutes, seconds, whole),
  time_is text b d rest h m s (h_is ∙ ap (λ x. Some (h, x)) colon) (m_is ∙ ap (λ x. Some (m, x)) again) s_is
      (omega (arith, hours, t.hours)) (omega (arith, minutes, t.minutes)) (omega (arith, seconds, t.seconds)),
)

pub no_length : (n : ℕ) → (n == 0) ≡ true → n ≡ 0
no_length n is = grind (arith, nat_tests, is)

nothing : (text : Text) → length text ≡ 0 → text ≡ []
nothing [] none = refl
nothing (c ∷ cs) none = absurd (omega (arith, none))

-- An offset.

made : Bool → ℕ → ℕ → Numeric
made is_minus h m = record { negative = is_minus; hours = h; minutes = Some m; seconds = None; nanoseconds = None }

numeric_is : (is_minus : Bool) (text b : Text) (h m : ℕ) → two_digits text ≡ Some (h, 58 ∷ b)
    → two_digits b ≡ Some (m, []) → h ≤ 25 → m ≤ 59
    → parse_numeric datetime_parser (sign_of is_minus ∷ text) ≡ Ok (made is_minus h m, [])
unfolding parse_numeric made
numeric_is true text b h m h_is m_is h_most m_most =
    let hours = field_is Syntax.Offset 0 25 Bound.OffsetHours text (58 ∷ b) h h_is (omega arith) h_most in
    let minutes = field_is Syntax.Offset 0 59 Bound.OffsetMinutes b [] m m_is (omega arith) m_most in
    rw (hours, minutes)
numeric_is false text b h m h_is m_is h_most m_most =
    let hours = field_is Syntax.Offset 0 25 Bound.OffsetHours text (58 ∷ b) h h_is (omega arith) h_most in
    let minutes = field_is Syntax.Offset 0 59 Bound.OffsetMinutes b [] m m_is (omega arith) m_most in
    rw (hours, minutes)

same_sign : (is_minus : Bool) (n : ℕ) → signed_by is_minus n ≡ signed is_minus n
same_sign true n = refl
same_sign false n = refl

seconds_is : (is_minus : Bool) (h m total : ℕ) → h ≤ 25 → m ≤ 59 → total ≡ 3600 * h + 60 * m
    → numeric_seconds (made is_minus h m) ≡ Ok (signed is_minus total)
unfolding made
seconds_is is_minus h m total h_most m_most is =
    let same : h * 3600 + m * 60 + 0 + 0 ≡ total = omega (arith, is) in
    let within : nat_lt 93599 total ≡ false = grind (arith, nat_tests, h_most, m_most, is) in
    rw (same, within) (ap Ok (same_sign is_minus total))

pub offset_read : (is_minus : Bool) (text a b rest : Text) (h m total : ℕ) (o : UtcOffset)
    → two_digits text ≡ Some (h, a) → a ≡ 58 ∷ b → two_digits b ≡ Some (m, rest) → true ≡ (length rest == 0) → h ≤ 25 → m ≤ 59
    → total ≡ 3600 * h + 60 * m → signed o.is_negative o.seconds ≡ signed is_minus total
    → IsOffsetSpelledAfter is_minus text o
offset_read is_minus text a b rest h m total o h_is colon m_is none h_most m_most total_is is = (
  made is_minus h m,
  numeric_is is_minus text b h m (h_is ∙ ap (λ x. Some (h, x)) colon) (m_is ∙ ap (λ x. Some (m, x)) (nothing rest (no_length (length rest) (sym none)))) h_most m_most,
  seconds_is is_minus h m total h_most m_most total_is ∙ ap Ok (sym is),
)

pub sign_kept : (is_minus : Bool) (n : ℕ) → signed (is_minus && not (n == 0)) n ≡ signed is_minus n
sign_kept false n = refl
sign_kept true zero = refl
sign_kept true (suc n) =
    let some : (suc n == 0) ≡ false = grind (arith, nat_tests) in rw some refl

pub no_offset : (text : Text) → length text ≡ 0 → IsOffsetSpelled text None
unfolding parse_optional temporal_fraction
no_offset [] none = (None, None, refl, refl, tt, refl)
no_offset (c ∷ cs) none = absurd (omega (arith, none))

pub zulu : (rest : Text) (o : UtcOffset) → length rest ≡ 0 → o.seconds ≡ 0 → o.is_negative ≡ false
    → IsOffsetSpelled (90 ∷ rest) (Some o)
unfolding parse_optional parse temporal_fraction
zulu [] o none seconds ahead = (
  Some Zulu,
  Some zulu_piece,
  refl,
  refl,
  rw (ahead, seconds) refl,
  refl,
)
zulu (c ∷ cs) o none seconds ahead = absurd (omega (arith, none))

-- With its sign.
pub with_sign : (is_minus : Bool) (text rest : Text) (o : UtcOffset) → text ≡ sign_of is_minus ∷ rest
    → IsOffsetSpelledAfter is_minus rest o → IsOffsetSpelled text (Some o)
unfolding parse_optional parse temporal_fraction
with_sign true text rest o is spelled =
    rw is (
      Some (Written spelled.0),
      Some (written (signed o.is_negative o.seconds) spelled.0.negative),
      rw spelled.1 refl,
      rw spelled.2 refl,
      refl,
      refl,
    )
with_sign false text rest o is spelled =
    rw is (
      Some (Written spelled.0),
      Some (written (signed o.is_negative o.seconds) spelled.0.negative),
      rw spelled.1 refl,
      rw spelled.2 refl,
      refl,
      refl,
    )

-- A whole moment.

time_part_is : (p : DateParts) (text rest : Text) (t : TimeParts) (parsed : Option ParsedOffset)
    → time_spec text ≡ Ok ((t, true), rest) → parse_optional datetime_parser rest ≡ Ok (parsed, [])
    → time_part p text ≡ Ok (record { date = p; time = Some t; offset = parsed; zone = None }, [])
unfolding Rfc9557.parse Rfc9557.time_zone_annotation Rfc9557.annotations
time_part_is p text rest t parsed time offset = rw (time, offset)

pub time_and_offset : (d : Date) (text rest : Text) (t : Time) (o : Option UtcOffset) (m : Moment)
    → IsTimeSpelled text t rest → IsOffsetSpelled rest o → m.date ≡ Some d → m.time ≡ Some t → m.offset ≡ o
    → IsTimeSpelledAfter d text m
time_and_offset d text rest t o m time offset date_is time_is offset_is = (
  time.0,
  offset.0,
  offset.1,
  date_is,
  rw time_is time.1,
  rw offset_is offset.4,
  offset.3,
  λ p. time_part_is p text rest time.0 offset.0 (time.2 offset.5) offset.2,
)

parts_alone : (text : Text) (p : DateParts) → date_spec text ≡ Ok (p, [])
    → parse_pieces text ≡ Ok (record { date = p; time = None; offset = None; zone = None })
unfolding temporal_datetime Rfc9557.parse Rfc9557.time_zone_annotation Rfc9557.annotations
parts_alone text p is = rw is

pub date_alone : (text rest : Text) (d : Date) (m : Moment) → IsDateSpelled text d rest → length rest ≡ 0
    → m.date ≡ Some d → m.time ≡ None → m.offset ≡ None → IsSpelled text m
date_alone text rest d m date none date_is time_is offset_is = (
  record { date = date.0; time = None; offset = None; zone = None },
  parts_alone text date.0 (date.1 ∙ ap (λ r. Ok (date.0, r)) (nothing rest none)),
  rw (date_is, time_is, offset_is) (date.2, tt, tt),
  refl,
  date.3,
)

parts_with : (text rest : Text) (c : ℕ) (p : DateParts) (t : TimeParts) (parsed : Option ParsedOffset)
    (piece : Option OffsetPiece) → date_spec text ≡ Ok (p, c ∷ rest)
    → ((c == 32) || (c == 84) || (c == 116)) ≡ true
    → time_part p rest ≡ Ok (record { date = p; time = Some t; offset = parsed; zone = None }, [])
    → each offset_piece parsed ≡ Ok piece
    → parse_pieces text ≡ Ok (record { date = p; time = Some t; offset = piece; zone = None })
unfolding temporal_datetime
parts_with text rest c p t parsed piece date separates time offset = rw (date, separates, time, offset)

spelled_by : (text rest : Text) (c : ℕ) (d : Date) (m : Moment) → IsDateSpelled text d (c ∷ rest)
    → ((c == 32) || (c == 84) || (c == 116)) ≡ true → IsTimeSpelledAfter d rest m → IsSpelled text m
spelled_by text rest c d m date separates time = (
  record { date = date.0; time = Some time.0; offset = time.2; zone = None },
  parts_with text rest c date.0 time.0 time.1 time.2 date.1 separates (time.7 date.0) time.6,
  (subst (IsDateRead date.0) (sym time.3) date.2, time.4, time.5),
  refl,
  date.3,
)

date_and_time : (text more : Text) (rest : Bor Text) (d : Date) (m : Moment) → IsDateSpelled text d more
    → IsAfterSeparator more rest → IsTimeSpelledAfter d rest.now m → IsSpelled text m
date_and_time text more rest d m date (inl is) time =
    spelled_by text rest.now 84 d m (subst (IsDateSpelled text d) is date) refl time
date_and_time text more rest d m date (inr is) time =
    spelled_by text rest.now 32 d m (subst (IsDateSpelled text d) is date) refl time

pub date_and_time_if : (text more : Text) (rest : Bor Text) (d : Date) (r : Option Moment) → IsDateSpelled text d more
    → IsAfterSeparator more rest → IfSome r (IsTimeSpelledAfter d rest.now) → IfSome r (IsSpelled text)
date_and_time_if text more rest d None date is time = tt
date_and_time_if text more rest d (Some m) date is time = date_and_time text more rest d m date is time
