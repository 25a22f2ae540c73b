-- What can be written if the fields that were read are the fields that are written, whichever optional parts
-- and alternatives were read.
use Rattle.std.specs.Prelude.{◌≡◌, ◌≤◌, IfErr, IfSome, Ok}
use Rattle.timefd_lang_component.specs.Tree.{Text, Tree}
use Rattle.timefd_date_format.specs.declared.field.Lack.{Lack}
use Rattle.timefd_date_format.specs.Written.{written}
use Rattle.timefd_date_moment.specs.declared.date.Date.{Date}
use Rattle.timefd_date_moment.specs.declared.moment.Moment.{Moment}
use Rattle.timefd_date_moment.specs.Moments.{iso_years, magnitude}
use Rattle.timefd_date_moment.specs.declared.fields.fields.Fields.{Fields}
use Rattle.timefd_date_moment.specs.Fields.Reads.{fields_of}
use Rattle.timefd_date_moment.specs.Reading.Values.{IsMomentOf}
use Rattle.timefd_laws.specs.Reading.Again.{parts}
use Rattle.timefd_laws.specs.Reading.Shown.{shows}
use Rattle.timefd_laws.specs.Reading.Written.{HasText}

-- A moment that was read has every part that is needed. The only error left is that a year is too long for
-- its component.
abbrev pub LacksYearsAlone : Type 0
LacksYearsAlone = (m : Moment) (tree : Tree) (text : Text) (f : Fields) → fields_of tree text ≡ Ok f
    → parts f ≡ shows tree → IsMomentOf f (Ok m) → IfErr (written m tree) (λ u. u.lack ≡ Lack.YearTooLong)

-- the year and the ISO week-numbering year have at most four digits
abbrev pub HasShortYears : Date → Type 0
HasShortYears d = (magnitude d.years ≤ 9999) × (magnitude (iso_years d) ≤ 9999)

-- A moment whose years have at most four digits can be written.
abbrev pub WritesShortYears : Type 0
WritesShortYears = (m : Moment) (tree : Tree) (text : Text) (f : Fields) → fields_of tree text ≡ Ok f
    → parts f ≡ shows tree → IsMomentOf f (Ok m) → IfSome m.date HasShortYears → HasText m tree
