use Rattle.timefd_date_format.proofs.FilledLemmas.{nine_appended}
use Rattle.timefd_date_format.proofs.fraction.append_nine.Goals as goal

pub returns : goal.returns
returns c =
    nine_appended c.args.number c.args.room.now c.append_bytes-first.new.room c.append_four-middle.new.room c.append_four.new.room
    c.args.at c.append_bytes-first.result c.append_four-middle.result c.append_four.result c.requires.fits
    c.append_bytes-first.ensures c.append_four-middle.ensures c.append_four.ensures
