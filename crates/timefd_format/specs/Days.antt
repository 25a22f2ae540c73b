-- The components of most dates: a day and a month of two digits, and a year of four.
use Rattle.std.specs.Prelude.{false}
use Rattle.timefd_modifier.specs.declared.enums.Padding.{Padding}
use Rattle.timefd_lang_component.specs.declared.component.Component.{Component}
use Rattle.timefd_lang_component.specs.Tree.{Tree, component}

abbrev pub padded_day : Tree
padded_day = component (Component.Day (record { padding = Padding.Zero }))

abbrev pub padded_month : Tree
padded_month = component (Component.MonthNumerical (record { padding = Padding.Zero }))

abbrev pub padded_year : Tree
padded_year = component (Component.CalendarYearFullStandardRange (record { padding = Padding.Zero; sign_is_mandatory = false }))
