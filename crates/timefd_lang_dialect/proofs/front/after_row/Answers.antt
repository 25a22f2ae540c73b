use Rattle.timefd_lang_dialect.specs.Rows.{entry_of}
use Rattle.timefd_lang_dialect.proofs.RowLemmas.{row_stands}
use Rattle.timefd_lang_dialect.proofs.front.after_row.Goals as goal

pub unreachable-requires : goal.unreachable-requires
unreachable-requires c =
    c.in-None.ensures.rest _
    (row_stands (entry_of c.args.row.now) c.args.text.now c.requires)
