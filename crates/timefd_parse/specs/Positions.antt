-- The positions of the keys of a head.
use Rattle.std.specs.Prelude.{ℕ, Option, Some, None}
use Rattle.timefd_parse.specs.declared.head.positions.Positions.{Positions}
use Rattle.timefd_lang_fault.specs.declared.key.Key.{Key}
use Rattle.timefd_lang_fault.specs.declared.key.Key.TheVariants.{Padding, TrailingInput, HourRepr, Count, MonthRepr, CaseSensitive, Sign, Case, Digits, Precision, WeekdayRepr, OneIndexed, WeekNumberRepr, YearRepr, Range, Base, Format}

abbrev pub no_positions : Positions
no_positions = record {
  padding = None;
  trailing_input = None;
  repr = None;
  count = None;
  case_sensitive = None;
  sign = None;
  case = None;
  digits = None;
  precision = None;
  one_indexed = None;
  range = None;
  base = None;
  format = None;
}

abbrev pub position : Positions → Key → Option ℕ
position p Padding = p.padding
position p TrailingInput = p.trailing_input
position p HourRepr = p.repr
position p Count = p.count
position p MonthRepr = p.repr
position p CaseSensitive = p.case_sensitive
position p Sign = p.sign
position p Case = p.case
position p Digits = p.digits
position p Precision = p.precision
position p WeekdayRepr = p.repr
position p OneIndexed = p.one_indexed
position p WeekNumberRepr = p.repr
position p YearRepr = p.repr
position p Range = p.range
position p Base = p.base
position p Format = p.format

abbrev pub with_position : Positions → Key → ℕ → Positions
with_position p Padding r = record p { padding = Some r }
with_position p TrailingInput r = record p { trailing_input = Some r }
with_position p HourRepr r = record p { repr = Some r }
with_position p Count r = record p { count = Some r }
with_position p MonthRepr r = record p { repr = Some r }
with_position p CaseSensitive r = record p { case_sensitive = Some r }
with_position p Sign r = record p { sign = Some r }
with_position p Case r = record p { case = Some r }
with_position p Digits r = record p { digits = Some r }
with_position p Precision r = record p { precision = Some r }
with_position p WeekdayRepr r = record p { repr = Some r }
with_position p OneIndexed r = record p { one_indexed = Some r }
with_position p WeekNumberRepr r = record p { repr = Some r }
with_position p YearRepr r = record p { repr = Some r }
with_position p Range r = record p { range = Some r }
with_position p Base r = record p { base = Some r }
with_position p Format r = record p { format = Some r }
