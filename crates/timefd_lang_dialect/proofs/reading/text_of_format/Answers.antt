use Rattle.std.proofs.Common.{◌∙◌, sym, subst, string_bytes}
use Rattle.timefd_lang_dialect.proofs.ItemLemmas.{whole_spelled}
use Rattle.timefd_lang_dialect.proofs.ReadingLemmas.{HasRead, read_more}
use Rattle.timefd_lang_dialect.proofs.reading.text_of_format.Goals as goal

pub pieces-preserved : goal.pieces-preserved
pieces-preserved c = (
  c.in-Ok.ensures.left.utf8,
  subst (HasRead c.args.dialect c.args.format.now c.in-Ok.step.rest.now
      (string_bytes c.push_pieces.new.answer)) (sym c.narrowed-limits.ensures)
      (read_more _ _ _ _ _ _ _ c.pieces.invariant.1 c.in-Ok.ensures),
)

pub returns-clause-same_items : goal.returns-clause-same_items
returns-clause-same_items c =
    whole_spelled _ _ _ _ _ c.pieces.invariant.1 (sym c.is_empty.ensures ∙ c.pieces-test.false)
