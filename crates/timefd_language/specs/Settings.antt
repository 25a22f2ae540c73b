-- What the modifiers of a head set.
use Rattle.std.specs.Prelude.{Bool, true, false, Some, None}
use Rattle.timefd_modifier.specs.declared.enums.Padding.{Padding}
use Rattle.timefd_modifier.specs.declared.enums.MonthRepr.{MonthRepr}
use Rattle.timefd_modifier.specs.declared.enums.WeekdayRepr.{WeekdayRepr}
use Rattle.timefd_modifier.specs.declared.enums.WeekNumberRepr.{WeekNumberRepr}
use Rattle.timefd_modifier.specs.declared.enums.YearRepr.{YearRepr}
use Rattle.timefd_modifier.specs.declared.enums.YearRange.{YearRange}
use Rattle.timefd_modifier.specs.declared.enums.SubsecondDigits.{SubsecondDigits}
use Rattle.timefd_modifier.specs.declared.enums.UnixTimestampPrecision.{UnixTimestampPrecision}
use Rattle.timefd_modifier.specs.declared.enums.TrailingInput.{TrailingInput}
use Rattle.timefd_language.specs.declared.setting.Setting.{Setting}
use Rattle.timefd_language.specs.declared.setting.Settings.{Settings}

-- years have the standard range in version 3, and the extended range in versions 1 and 2
abbrev pub default_range : Bool → YearRange
default_range true = YearRange.Standard
default_range false = YearRange.Extended

-- the settings of a head without modifiers
abbrev pub defaults : Bool → Settings
defaults strict = record {
  padding = Padding.Zero;
  trailing_input = TrailingInput.Prohibit;
  is_12_hour_clock = false;
  count = None;
  month_repr = MonthRepr.Numerical;
  case_sensitive = true;
  sign_is_mandatory = false;
  is_uppercase = true;
  digits = SubsecondDigits.OneOrMore;
  precision = UnixTimestampPrecision.Second;
  weekday_repr = WeekdayRepr.Long;
  one_indexed = true;
  week_number_repr = WeekNumberRepr.Iso;
  year_repr = YearRepr.Full;
  range = default_range strict;
  iso_week_based = false;
  format = true;
}

-- the settings with one more, which replaces an earlier one of the same field
abbrev pub with : Settings → Setting → Settings
with s (Setting.Padding p) = record s { padding = p }
with s (Setting.TrailingInput t) = record s { trailing_input = t }
with s (Setting.Is12HourClock b) = record s { is_12_hour_clock = b }
with s (Setting.Count n) = record s { count = Some n }
with s (Setting.MonthRepr r) = record s { month_repr = r }
with s (Setting.CaseSensitive b) = record s { case_sensitive = b }
with s (Setting.SignIsMandatory b) = record s { sign_is_mandatory = b }
with s (Setting.IsUppercase b) = record s { is_uppercase = b }
with s (Setting.Digits d) = record s { digits = d }
with s (Setting.Precision p) = record s { precision = p }
with s (Setting.WeekdayRepr r) = record s { weekday_repr = r }
with s (Setting.OneIndexed b) = record s { one_indexed = b }
with s (Setting.WeekNumberRepr r) = record s { week_number_repr = r }
with s (Setting.YearRepr r) = record s { year_repr = r }
with s (Setting.Range r) = record s { range = r }
with s (Setting.IsoWeekBased b) = record s { iso_week_based = b }
with s (Setting.Format b) = record s { format = b }
