use Rattle.std.proofs.Common.{Some, sym, subst}
use Rattle.timefd_modifier.specs.declared.enums.Padding.{Padding}
use Rattle.timefd_date_format.specs.Fields.{year}
use Rattle.timefd_date_format.specs.Written.{text_of}
use Rattle.timefd_date_format.specs.Appends.{TriesToAppend}
use Rattle.timefd_date_format.proofs.QuickLemmas.{year_appended}
use Rattle.timefd_date_format.proofs.quick.append_year.Goals as goal

pub returns-in-Zero : goal.returns-in-Zero
returns-in-Zero c shape greatest enough =
    subst (λ p. TriesToAppend (text_of shape (year greatest 4 1 p c.args.is_mandatory c.args.years))
    c.args.room.now c.args.at c.append_four.new.room (Some c.append_four.result))
    (sym c.in-Zero.is)
    (subst (λ b. TriesToAppend (text_of shape (year greatest 4 1 Padding.Zero b c.args.years))
    c.args.room.now c.args.at c.append_four.new.room (Some c.append_four.result))
    (sym c.if-is_mandatory.false)
    (year_appended shape greatest c.args.years c.args.room.now c.append_four.new.room c.args.at c.append_four.result enough
    c.if-years-lt1000000.false c.if-years-ge1010000.false c.append_four.ensures))
