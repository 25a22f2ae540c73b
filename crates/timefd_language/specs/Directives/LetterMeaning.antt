-- What the code's letters of strftime mean.
use Rattle.std.specs.Prelude.{ℕ, ◌≡◌, codes, List, [], ◌∷◌, Option, Some, None}
use Rattle.timefd_modifier.specs.declared.enums.Padding.{Padding}
use Rattle.timefd_lang_component.specs.Tree.{Tree, component, literal, compound, trees}
use Rattle.timefd_language.specs.declared.strftime.letter.Letter.{Letter}
use Rattle.timefd_language.specs.declared.strftime.letter.Letter.TheVariants.{Percent, LineFeed, Tab, Fixed, Padded, Composite as OfComposite}
use Rattle.timefd_language.specs.declared.strftime.letter.Field.{Field}
use Rattle.timefd_language.specs.declared.strftime.letter.Field.TheVariants.{Century, Day, Hour12, Hour24, IsoYearLastTwo, Minute, Month, Ordinal, Second, WeekNumberIso, WeekNumberMonday, WeekNumberSunday, YearLastTwo}
use Rattle.timefd_language.specs.declared.strftime.letter.Composite.{Composite}
use Rattle.timefd_language.specs.declared.strftime.letter.Composite.TheVariants.{DateAndTime, ShortDate, IsoDate, TimeOf12, HourAndMinute, TimeOf24, Offset}
use Rattle.timefd_language.specs.Letters.{Flag, unflagged, flagged, padding_of, padding_or, item_of, century, day, iso_last_two, hour_24, hour_12, ordinal, month, minute, second, week_sunday, week_iso, week_monday, last_two, date_and_time, short_date, iso_date, time_of_12, hour_and_minute, time_of_24, offset}

-- the component of a field with this padding
abbrev pub field_tree : Field → Padding → Tree
field_tree Century p = century p
field_tree Day p = day p
field_tree Hour12 p = hour_12 p
field_tree Hour24 p = hour_24 p
field_tree IsoYearLastTwo p = iso_last_two p
field_tree Minute p = minute p
field_tree Month p = month p
field_tree Ordinal p = ordinal p
field_tree Second p = second p
field_tree WeekNumberIso p = week_iso p
field_tree WeekNumberMonday p = week_monday p
field_tree WeekNumberSunday p = week_sunday p
field_tree YearLastTwo p = last_two p

abbrev pub composite_list : Composite → List Tree
composite_list DateAndTime = date_and_time
composite_list ShortDate = short_date
composite_list IsoDate = iso_date
composite_list TimeOf12 = time_of_12
composite_list HourAndMinute = hour_and_minute
composite_list TimeOf24 = time_of_24
composite_list Offset = offset

-- the item of a letter after a flag
abbrev pub letter_tree : Letter → Flag → Tree
letter_tree Percent f = literal (codes "%")
letter_tree LineFeed f = literal (10 ∷ [])
letter_tree Tab f = literal (9 ∷ [])
letter_tree (Fixed c) f = component c
letter_tree (Padded field padding) f = field_tree field (padding_or padding f)
letter_tree (OfComposite c) f = compound (trees (composite_list c))

-- what the byte stands for, if it is a letter
abbrev pub IsLetter : ℕ → Option Letter → Type 0
IsLetter b None = (f : Flag) → item_of f b ≡ None
IsLetter b (Some letter) = (f : Flag) → item_of f b ≡ Some (letter_tree letter f)

-- the padding that a flag asks for
abbrev pub flag_padding : Flag → Option Padding
flag_padding unflagged = None
flag_padding (flagged b) = Some (padding_of b)
