-- The modern forms of deprecated components, and of modern ones.
use Rattle.std.proofs.Common.{◌≡◌, Bool, true, false, refl}
use Rattle.std.specs.Prelude.{⊤}
use Rattle.timefd_modifier.specs.declared.enums.MonthRepr.{MonthRepr}
use Rattle.timefd_modifier.specs.declared.enums.WeekdayRepr.{WeekdayRepr}
use Rattle.timefd_modifier.specs.declared.enums.WeekNumberRepr.{WeekNumberRepr}
use Rattle.timefd_modifier.specs.declared.enums.YearRepr.{YearRepr}
use Rattle.timefd_modifier.specs.declared.enums.YearRange.{YearRange}
use Rattle.timefd_modifier.specs.declared.enums.UnixTimestampPrecision.{UnixTimestampPrecision}
use Rattle.timefd_modifier.specs.declared.month.Month.{Month as MonthFields}
use Rattle.timefd_modifier.specs.declared.day.Weekday.{Weekday as WeekdayFields}
use Rattle.timefd_modifier.specs.declared.week.WeekNumber.{WeekNumber as WeekNumberFields}
use Rattle.timefd_modifier.specs.declared.clock.Hour.{Hour as HourFields}
use Rattle.timefd_modifier.specs.declared.timestamp.UnixTimestamp.{UnixTimestamp as UnixTimestampFields}
use Rattle.timefd_modifier.specs.declared.year.Year.{Year as YearFields}
use Rattle.timefd_lang_component.specs.declared.component.Component.{Component}
use Rattle.timefd_lang_component.specs.declared.component.Component.TheVariants.{Ignore, Month, Weekday, WeekNumber, Hour, UnixTimestamp, Year}
use Rattle.timefd_lang_component.specs.Modern.{modern, modern_month, modern_weekday, modern_week_number, modern_hour, modern_timestamp, modern_year}
use Rattle.timefd_lang_component.specs.Laws.{ModernTwice}

-- What the modern form of a deprecated component may be: neither a deprecated one nor `ignore`.
abbrev pub IsReplacement : Component → Type 0
IsReplacement (Month m) = ⊥
IsReplacement (Weekday w) = ⊥
IsReplacement (WeekNumber w) = ⊥
IsReplacement (Hour h) = ⊥
IsReplacement (UnixTimestamp t) = ⊥
IsReplacement (Year y) = ⊥
IsReplacement (Ignore i) = ⊥
IsReplacement c = ⊤

pub month_replaced : (r : MonthRepr) (m : MonthFields) → IsReplacement (modern_month r m)
month_replaced MonthRepr.Short m = tt
month_replaced MonthRepr.Long m = tt
month_replaced MonthRepr.Numerical m = tt

pub weekday_replaced : (r : WeekdayRepr) (w : WeekdayFields) → IsReplacement (modern_weekday r w)
weekday_replaced WeekdayRepr.Short w = tt
weekday_replaced WeekdayRepr.Long w = tt
weekday_replaced WeekdayRepr.Sunday w = tt
weekday_replaced WeekdayRepr.Monday w = tt

pub week_replaced : (r : WeekNumberRepr) (w : WeekNumberFields)
    → IsReplacement (modern_week_number r w)
week_replaced WeekNumberRepr.Iso w = tt
week_replaced WeekNumberRepr.Sunday w = tt
week_replaced WeekNumberRepr.Monday w = tt

pub hour_replaced : (b : Bool) (h : HourFields) → IsReplacement (modern_hour b h)
hour_replaced true h = tt
hour_replaced false h = tt

pub timestamp_replaced : (p : UnixTimestampPrecision) (t : UnixTimestampFields)
    → IsReplacement (modern_timestamp p t)
timestamp_replaced UnixTimestampPrecision.Second t = tt
timestamp_replaced UnixTimestampPrecision.Millisecond t = tt
timestamp_replaced UnixTimestampPrecision.Microsecond t = tt
timestamp_replaced UnixTimestampPrecision.Nanosecond t = tt

pub year_replaced : (iso : Bool) (k : YearRepr) (r : YearRange) (y : YearFields)
    → IsReplacement (modern_year iso k r y)
year_replaced true YearRepr.Full YearRange.Extended y = tt
year_replaced true YearRepr.Full YearRange.Standard y = tt
year_replaced true YearRepr.Century YearRange.Extended y = tt
year_replaced true YearRepr.Century YearRange.Standard y = tt
year_replaced true YearRepr.LastTwo r y = tt
year_replaced false YearRepr.Full YearRange.Extended y = tt
year_replaced false YearRepr.Full YearRange.Standard y = tt
year_replaced false YearRepr.Century YearRange.Extended y = tt
year_replaced false YearRepr.Century YearRange.Standard y = tt
year_replaced false YearRepr.LastTwo r y = tt

replacement_modern : (c : Component) → IsReplacement c → modern c ≡ c
replacement_modern (Month m) is = absurd is
replacement_modern (Weekday w) is = absurd is
replacement_modern (WeekNumber w) is = absurd is
replacement_modern (Hour h) is = absurd is
replacement_modern (UnixTimestamp t) is = absurd is
replacement_modern (Year y) is = absurd is
replacement_modern _ is = refl

pub modern_twice_law : ModernTwice
modern_twice_law (Month m) = replacement_modern _ (month_replaced m.repr m)
modern_twice_law (Weekday w) = replacement_modern _ (weekday_replaced w.repr w)
modern_twice_law (WeekNumber w) = replacement_modern _ (week_replaced w.repr w)
modern_twice_law (Hour h) = replacement_modern _ (hour_replaced h.is_12_hour_clock h)
modern_twice_law (UnixTimestamp t) = replacement_modern _ (timestamp_replaced t.precision t)
modern_twice_law (Year y) = replacement_modern _ (year_replaced y.iso_week_based y.repr y.range y)
modern_twice_law _ = refl

pub modern_again : (c r : Component) → r ≡ modern c → modern r ≡ r
modern_again c r e = rw e (modern_twice_law c)
