-- An example.
use Rattle.std.proofs.Common.{◌≡◌, refl, false}
use Rattle.timefd_modifier.specs.declared.enums.WeekdayRepr.{WeekdayRepr}
use Rattle.timefd_lang_component.specs.declared.component.Component.TheVariants.{Weekday, WeekdaySunday}
use Rattle.timefd_lang_component.specs.Modern.{modern}

sunday : modern (Weekday (record {
  repr = WeekdayRepr.Sunday;
  one_indexed = false;
  case_sensitive =
      false;
}))
    ≡ WeekdaySunday (record { one_indexed = false })
sunday = refl
