-- The moment of the examples, and what the formatter writes for it.
use Rattle.std.specs.Prelude.{◌≡◌, false, MatchOption, Ok, ⊤}
use Rattle.timefd_lang_component.specs.Tree.{Text}
use Rattle.timefd_lang_component.specs.declared.component.Component.{Component}
use Rattle.timefd_date_format.specs.Written.{shown}
use Rattle.timefd_date_format.specs.declared.text.TextError.{TextError}
use Rattle.timefd_date_format.specs.declared.text.TextError.TheVariants as fails
use Rattle.timefd_date_moment.specs.declared.date.Date.{Date}
use Rattle.timefd_date_moment.specs.declared.moment.Moment.{Moment}
use Rattle.timefd_date_moment.specs.declared.offset.UtcOffset.{UtcOffset}
use Rattle.timefd_date_moment.specs.declared.time.Time.{Time}

-- 2026-02-03. Years are counted from the year -1,000,000.
abbrev pub IsDate : Date → Type 0
IsDate d = (d.years ≡ 1002026) × (d.month ≡ 2) × (d.day ≡ 3)

-- 09:05:07.012345678
abbrev pub IsTime : Time → Type 0
IsTime t = (t.hour ≡ 9) × (t.minute ≡ 5) × (t.second ≡ 7) × (t.nanosecond ≡ 12345678)

-- +01:30
abbrev pub IsOffset : UtcOffset → Type 0
IsOffset o = (o.is_negative ≡ false) × (o.seconds ≡ 5400)

-- All of 2026-02-03 09:05:07.012345678 +01:30 is known.
pub record IsSample (m : Moment) : Type 0 where
  pub date : MatchOption m.date ⊥ IsDate
  pub time : MatchOption m.time ⊥ IsTime
  pub offset : MatchOption m.offset ⊥ IsOffset

-- The formatter writes this text for the component at that moment.
abbrev pub IsExample : Component → Text → Type 0
IsExample c text = (m : Moment) × IsSample m × (shown m c ≡ Ok text)

-- There is no text because memory ran out.
abbrev pub IsMemory : TextError → Type 0
IsMemory (fails.Unshown u) = ⊥
IsMemory (fails.Memory e) = ⊤
