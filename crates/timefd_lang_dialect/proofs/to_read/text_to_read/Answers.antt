use Rattle.std.proofs.Common.{sym, subst, string_bytes}
use Rattle.timefd_lang_dialect.proofs.ToReadLemmas.{HasToRead, to_read_more}
use Rattle.timefd_lang_dialect.proofs.to_read.text_to_read.Goals as goal

pub pieces-preserved : goal.pieces-preserved
pieces-preserved c = (
  c.in-Ok.ensures.left.utf8,
  subst (HasToRead c.args.dialect c.args.format.now c.in-Ok.step.rest.now
      (string_bytes c.push_front_to_read.new.answer)) (sym c.narrowed-limits.ensures)
      (to_read_more _ _ _ _ _ _ _ c.pieces.invariant.1 c.in-Ok.ensures),
)
