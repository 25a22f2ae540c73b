-- Examples of what was read and is written, and of what was read but can't be written.
use Rattle.std.specs.Prelude.{◌≡◌, true, false, [], ◌∷◌, codes, Some, Ok, Err}
use Rattle.timefd_lang_component.specs.declared.component.Component.{Component}
use Rattle.timefd_lang_component.specs.declared.component.Component.TheVariants.{CalendarYearFullStandardRange, Hour24, Minute}
use Rattle.timefd_lang_component.specs.Tree.{Text, Tree, component, literal, compound, optional, trees}
use Rattle.timefd_date_format.specs.declared.field.Lack.{Lack}
use Rattle.timefd_date_format.specs.Written.{written}
use Rattle.timefd_modifier.specs.declared.enums.Padding.{Padding}
use Rattle.timefd_date_moment.specs.declared.date.Date.{Date}
use Rattle.timefd_date_moment.specs.declared.moment.Moment.{Moment}
use Rattle.timefd_date_moment.specs.declared.fields.fields.Fields.{Fields}
use Rattle.timefd_date_moment.specs.Fields.Fields.{no_fields}
use Rattle.timefd_date_moment.specs.Fields.Reads.{fields_of}
use Rattle.timefd_date_moment.specs.Reading.Values.{IsMomentOf}
use Rattle.timefd_laws.specs.Reading.Again.{is_plain, parts}
use Rattle.timefd_laws.specs.Reading.Examples.{date_fields, day, iso_date, month, only, year}
use Rattle.timefd_laws.specs.Reading.Shown.{shows, with_sign}
use Rattle.timefd_laws.specs.Reading.Written.{HasText, IsReadWritten}

abbrev pub hour : Component
hour = Hour24 (record { padding = Padding.Zero })

abbrev pub standard_year : Component
standard_year = CalendarYearFullStandardRange (record { padding = Padding.Zero; sign_is_mandatory = false })

-- `[year]-[month]-[day]` and then something more
abbrev pub date_and : Tree → Tree
date_and more = compound (trees (year ∷ literal (codes "-") ∷ month Padding.Zero ∷ literal (codes "-")
    ∷ day Padding.Zero ∷ more ∷ []))

-- ` [hour]:[minute]`
abbrev pub short_clock : Tree
short_clock = compound (trees (literal (codes " ") ∷ component hour ∷ literal (codes ":")
    ∷ component (Minute (record { padding = Padding.Zero })) ∷ []))

-- ` [year range:standard]`
abbrev pub year_again : Tree
year_again = compound (trees (literal (codes " ") ∷ component standard_year ∷ []))

abbrev pub long_year_fields : Fields
long_year_fields = record no_fields { year = Some (with_sign false 12026); month = Some 11; day = Some 23 }

-- A year with a plus is read, and written without it.
abbrev pub WrittenExample : Type 0
WrittenExample = (d : Date) → d.years ≡ 1002026 → d.month ≡ 11 → d.day ≡ 23
    → (is_plain iso_date ≡ true) × IsReadWritten iso_date (codes "+2026-11-23") date_fields
    × IsMomentOf date_fields (Ok (only d)) × (written (only d) iso_date ≡ Ok (codes "2026-11-23"))

-- an optional part that is written and was read
abbrev pub OptionalExample : Type 0
OptionalExample = IsReadWritten (date_and (optional true short_clock)) (codes "2026-11-23 05:36")
    (record date_fields { hour = Some 5; minute = Some 36 })

-- A formatter still has to write an optional part that was left out of the text, but the moment has no time
-- of day.
abbrev pub LeftOutExample : Type 0
LeftOutExample = (d : Date) → d.years ≡ 1002026 → d.month ≡ 11 → d.day ≡ 23
    → (fields_of (date_and (optional true short_clock)) (codes "2026-11-23") ≡ Ok date_fields)
    × IsMomentOf date_fields (Ok (only d))
    × (written (only d) (date_and (optional true short_clock))
    ≡ Err (record { component = hour; lack = Lack.NoTime }))

-- The fields that are read are the fields that are written, but the year is too long for the part that was
-- left out.
abbrev pub LongYearExample : Type 0
LongYearExample = (d : Date) → d.years ≡ 1012026 → d.month ≡ 11 → d.day ≡ 23
    → (fields_of (date_and (optional true year_again)) (codes "+12026-11-23") ≡ Ok long_year_fields)
    × (parts long_year_fields ≡ shows (date_and (optional true year_again)))
    × IsMomentOf long_year_fields (Ok (only d))
    × (written (only d) (date_and (optional true year_again))
    ≡ Err (record { component = standard_year; lack = Lack.YearTooLong }))

-- So it isn't enough that the fields that are read are the fields that are written: every part that is
-- written has to be read itself.
abbrev pub NeedsAllRead : Type 0
NeedsAllRead = ((m : Moment) (tree : Tree) (text : Text) (f : Fields) → fields_of tree text ≡ Ok f
    → parts f ≡ shows tree → IsMomentOf f (Ok m) → HasText m tree) → ⊥
