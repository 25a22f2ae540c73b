-- No two names, keys or values are the same, even if case is ignored.
use Rattle.std.proofs.Common.{map, refl, IsTrue}
use Rattle.timefd_lang_fault.specs.declared.key.Key.{Key}
use Rattle.timefd_lang_fault.specs.declared.name.ComponentName.{ComponentName}
use Rattle.timefd_lang_fault.specs.declared.name.Name.{Name}
use Rattle.timefd_language.specs.Distinct.{are_distinct, words_in}
use Rattle.timefd_language.specs.Lookup.{key_for, keys_for}

component_keys : (n : ComponentName) → IsTrue (are_distinct (map (λ k. k.key) (keys_for (Name.Component n))))
component_keys ComponentName.Day = refl
component_keys ComponentName.End = refl
component_keys ComponentName.Hour = refl
component_keys ComponentName.Ignore = refl
component_keys ComponentName.Minute = refl
component_keys ComponentName.Month = refl
component_keys ComponentName.OffsetHour = refl
component_keys ComponentName.OffsetMinute = refl
component_keys ComponentName.OffsetSecond = refl
component_keys ComponentName.Ordinal = refl
component_keys ComponentName.Period = refl
component_keys ComponentName.Second = refl
component_keys ComponentName.Subsecond = refl
component_keys ComponentName.UnixTimestamp = refl
component_keys ComponentName.Weekday = refl
component_keys ComponentName.WeekNumber = refl
component_keys ComponentName.Year = refl

pub distinct_keys : (n : Name) → IsTrue (are_distinct (map (λ k. k.key) (keys_for n)))
distinct_keys Name.Optional = refl
distinct_keys Name.First = refl
distinct_keys (Name.Component n) = component_keys n

pub distinct_values : (k : Key) → IsTrue (are_distinct (words_in (key_for k).values))
distinct_values Key.Padding = refl
distinct_values Key.TrailingInput = refl
distinct_values Key.HourRepr = refl
distinct_values Key.Count = refl
distinct_values Key.MonthRepr = refl
distinct_values Key.CaseSensitive = refl
distinct_values Key.Sign = refl
distinct_values Key.Case = refl
distinct_values Key.Digits = refl
distinct_values Key.Precision = refl
distinct_values Key.WeekdayRepr = refl
distinct_values Key.OneIndexed = refl
distinct_values Key.WeekNumberRepr = refl
distinct_values Key.YearRepr = refl
distinct_values Key.Range = refl
distinct_values Key.Base = refl
distinct_values Key.Format = refl
