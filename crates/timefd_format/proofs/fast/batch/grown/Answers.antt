use Rattle.timefd_format.proofs.BatchLemmas.{one_more}
use Rattle.timefd_format.proofs.FieldLemmas.{slice_to_end}
use Rattle.timefd_format.proofs.fast.batch.grown.Goals as goal

pub returns : goal.returns
returns c =
    one_more c.args.source.now c.args.description.now c.args.text.now _ c.without_newline-line.result.now
    c.args.room.now c.append_line.new.room c.args.batch c.in_ok-len.len c.in_ok-end.end c.requires.batch
    (slice_to_end c.args.text.now c.args.batch.read) c.in_ok-len.ensures.within c.in_ok-len.ensures.line
    c.without_newline-line.ensures c.in_ok-end.ensures
