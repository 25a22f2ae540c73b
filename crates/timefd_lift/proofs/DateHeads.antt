-- The brackets of days, weeks and months.
use Rattle.std.proofs.Common.{Bool, true, false, refl}
use Rattle.timefd_modifier.specs.declared.enums.Padding.{Padding}
use Rattle.timefd_lang_component.specs.declared.component.Component.TheVariants.{Day, MonthShort, MonthLong, MonthNumerical, Ordinal, WeekdayShort, WeekdayLong, WeekdaySunday, WeekdayMonday, WeekNumberIso, WeekNumberSunday, WeekNumberMonday}
use Rattle.timefd_lift.proofs.Heads.{IsShownAs, shown}

pub day : (p : Padding) → IsShownAs (Day (record { padding = p }))
day Padding.Zero = shown refl refl (λ close. refl) (λ close. refl)
day Padding.Space = shown refl refl (λ close. refl) (λ close. refl)
day Padding.None = shown refl refl (λ close. refl) (λ close. refl)

pub month_short : (c : Bool) → IsShownAs (MonthShort (record { case_sensitive = c }))
month_short true = shown refl refl (λ close. refl) (λ close. refl)
month_short false = shown refl refl (λ close. refl) (λ close. refl)

pub month_long : (c : Bool) → IsShownAs (MonthLong (record { case_sensitive = c }))
month_long true = shown refl refl (λ close. refl) (λ close. refl)
month_long false = shown refl refl (λ close. refl) (λ close. refl)

pub month_numerical : (p : Padding) → IsShownAs (MonthNumerical (record { padding = p }))
month_numerical Padding.Zero = shown refl refl (λ close. refl) (λ close. refl)
month_numerical Padding.Space = shown refl refl (λ close. refl) (λ close. refl)
month_numerical Padding.None = shown refl refl (λ close. refl) (λ close. refl)

pub ordinal : (p : Padding) → IsShownAs (Ordinal (record { padding = p }))
ordinal Padding.Zero = shown refl refl (λ close. refl) (λ close. refl)
ordinal Padding.Space = shown refl refl (λ close. refl) (λ close. refl)
ordinal Padding.None = shown refl refl (λ close. refl) (λ close. refl)

pub weekday_short : (c : Bool) → IsShownAs (WeekdayShort (record { case_sensitive = c }))
weekday_short true = shown refl refl (λ close. refl) (λ close. refl)
weekday_short false = shown refl refl (λ close. refl) (λ close. refl)

pub weekday_long : (c : Bool) → IsShownAs (WeekdayLong (record { case_sensitive = c }))
weekday_long true = shown refl refl (λ close. refl) (λ close. refl)
weekday_long false = shown refl refl (λ close. refl) (λ close. refl)

pub weekday_sunday : (i : Bool) → IsShownAs (WeekdaySunday (record { one_indexed = i }))
weekday_sunday true = shown refl refl (λ close. refl) (λ close. refl)
weekday_sunday false = shown refl refl (λ close. refl) (λ close. refl)

pub weekday_monday : (i : Bool) → IsShownAs (WeekdayMonday (record { one_indexed = i }))
weekday_monday true = shown refl refl (λ close. refl) (λ close. refl)
weekday_monday false = shown refl refl (λ close. refl) (λ close. refl)

pub week_iso : (p : Padding) → IsShownAs (WeekNumberIso (record { padding = p }))
week_iso Padding.Zero = shown refl refl (λ close. refl) (λ close. refl)
week_iso Padding.Space = shown refl refl (λ close. refl) (λ close. refl)
week_iso Padding.None = shown refl refl (λ close. refl) (λ close. refl)

pub week_sunday : (p : Padding) → IsShownAs (WeekNumberSunday (record { padding = p }))
week_sunday Padding.Zero = shown refl refl (λ close. refl) (λ close. refl)
week_sunday Padding.Space = shown refl refl (λ close. refl) (λ close. refl)
week_sunday Padding.None = shown refl refl (λ close. refl) (λ close. refl)

pub week_monday : (p : Padding) → IsShownAs (WeekNumberMonday (record { padding = p }))
week_monday Padding.Zero = shown refl refl (λ close. refl) (λ close. refl)
week_monday Padding.Space = shown refl refl (λ close. refl) (λ close. refl)
week_monday Padding.None = shown refl refl (λ close. refl) (λ close. refl)
