-- A description whose parts are given shows the same of all dates that agree with what was read.
use Rattle.std.specs.Prelude.{◌≡◌, IsTrue, Option, Some}
use Rattle.timefd_lang_component.specs.Tree.{Tree}
use Rattle.timefd_date_format.specs.Written.{written}
use Rattle.timefd_date_moment.specs.declared.date.Date.{Date}
use Rattle.timefd_date_moment.specs.declared.time.Time.{Time}
use Rattle.timefd_date_moment.specs.declared.offset.UtcOffset.{UtcOffset}
use Rattle.timefd_date_moment.specs.declared.moment.Moment.{Moment}
use Rattle.timefd_lang_node_list.specs.Leaves.{leaves}
use Rattle.timefd_format.specs.Completing.Given.{are_given}
use Rattle.timefd_date_moment.specs.declared.fields.fields.Fields.{Fields}
use Rattle.timefd_date_moment.specs.Reading.Shown.{DateAgrees}

abbrev pub dated : Date → Option Time → Option UtcOffset → Moment
dated d time offset = record { date = Some d; time = time; offset = offset }

-- What is written of a date that agrees with what was read is written of each that does.
abbrev pub OneText : Type 0
OneText = (f : Fields) (d e : Date) (time : Option Time) (offset : Option UtcOffset) (t : Tree) → DateAgrees f d
    → DateAgrees f e → IsTrue (are_given f (leaves t)) → written (dated d time offset) t ≡ written (dated e time offset) t
