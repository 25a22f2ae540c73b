-- What holds of texts that were written, and are read.
use Rattle.std.specs.Prelude.{◌≡◌, ◌++◌, true, Ok}
use Rattle.timefd_lang_component.specs.declared.component.Component.{Component}
use Rattle.timefd_lang_component.specs.Modern.{modern}
use Rattle.timefd_lang_component.specs.Tree.{Text, Tree, component}
use Rattle.timefd_date_format.specs.Written.{shown, written}
use Rattle.timefd_date_moment.specs.declared.date.Date.{Date}
use Rattle.timefd_date_moment.specs.declared.time.Time.{Time}
use Rattle.timefd_date_moment.specs.declared.offset.UtcOffset.{UtcOffset}
use Rattle.timefd_date_moment.specs.declared.moment.Moment.{Moment}
use Rattle.timefd_date_moment.specs.Fields.Reads.{Point, fields_of, read}
use Rattle.timefd_lang_warnings.specs.Settling.Bounds.{bound_of}
use Rattle.timefd_laws.specs.Reading.Bounds.{IsBounded}
use Rattle.timefd_lang_warnings.specs.Settling.Settled.{is_settled}
use Rattle.timefd_laws.specs.Reading.Shown.{IsOf, Shows, fields_shown, shows, with_component}

-- in front of this text, with these fields of the moment read
abbrev pub at : Date → Time → UtcOffset → Shows → Text → Point
at d t o s text = record { rest = text; fields = fields_shown d t o s }

-- The text that is written for a component is read back, and nothing after it. The fields are those of the
-- moment.
abbrev pub ComponentBack : Type 0
ComponentBack = (m : Moment) (d : Date) (t : Time) (o : UtcOffset) (c : Component) (s : Shows)
    (text rest : Text) → IsOf m d t o → shown m c ≡ Ok text → IsBounded (bound_of (modern c)) rest
    → read (component c) (at d t o s (text ++ rest)) ≡ Ok (at d t o (with_component (modern c) s) rest)

-- The text that is written for a settled description is read back. The fields are those that the description
-- shows, with the values of the moment.
abbrev pub ReadsBack : Type 0
ReadsBack = (m : Moment) (d : Date) (t : Time) (o : UtcOffset) (tree : Tree) (text : Text) → IsOf m d t o
    → is_settled tree ≡ true → written m tree ≡ Ok text
    → fields_of tree text ≡ Ok (fields_shown d t o (shows tree))
