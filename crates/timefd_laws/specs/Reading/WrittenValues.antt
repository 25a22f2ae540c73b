-- Values that were read can be written, one by one or as a moment.
use Rattle.std.specs.Prelude.{Bool, true, false, ⊤, Option, Some, None, Ok}
use Rattle.timefd_lang_component.specs.Tree.{Text, Tree}
use Rattle.timefd_date_moment.specs.declared.moment.Moment.{Moment}
use Rattle.timefd_date_moment.specs.declared.unix_time.UnixTime.{UnixTime}
use Rattle.timefd_date_moment.specs.declared.fields.fields.Fields.{Fields}
use Rattle.timefd_date_moment.specs.Reading.Known.{has_date, has_offset, has_time}
use Rattle.timefd_date_moment.specs.Reading.Offsets.{HasShift, IsOffsetOf}
use Rattle.timefd_date_moment.specs.Reading.Stamped.{zone_read}
use Rattle.timefd_date_moment.specs.Reading.Stamps.{instant_read}
use Rattle.timefd_date_moment.specs.Reading.Values.{IsDateOf, IsTimeOf}
use Rattle.timefd_laws.specs.Reading.Written.{HasText, IsReadWritten}

-- If a value is needed, it is known and has this property.
abbrev pub IsKnownIf : {A : Type 0} → Bool → (A → Type 0) → Option A → Type 0
IsKnownIf false Is x = ⊤
IsKnownIf true Is None = ⊥
IsKnownIf true Is (Some a) = Is a

-- If something was read about a part of the moment, that part is the one that the fields give. With a
-- timestamp all three parts are needed, with UTC if no offset was read.
abbrev pub HasValuesBy : Option UnixTime → Moment → Fields → Type 0
HasValuesBy None m f = IsKnownIf (has_date f) (λ d. IsDateOf f (Ok d)) m.date
    × IsKnownIf (has_time f) (λ t. IsTimeOf f (Ok t)) m.time
    × IsKnownIf (has_offset f) (λ o. IsOffsetOf f (Ok o)) m.offset
HasValuesBy (Some u) m f = IsKnownIf true (λ d. IsDateOf f (Ok d)) m.date
    × IsKnownIf true (λ t. IsTimeOf f (Ok t)) m.time × IsKnownIf true (HasShift (zone_read f)) m.offset

abbrev pub HasValues : Moment → Fields → Type 0
HasValues m f = HasValuesBy (instant_read f) m f

-- The values that were read can be written. The moment may have more than these.
abbrev pub WritesValues : Type 0
WritesValues = (m : Moment) (tree : Tree) (text : Text) (f : Fields) → IsReadWritten tree text f → HasValues m f
    → HasText m tree
