use Rattle.std.proofs.Common.{◌∙◌, None, ap}
use Rattle.timefd_lang_dialect.specs.Best.{best_at}
use Rattle.timefd_lang_dialect.specs.Tables.{groups_of}
use Rattle.timefd_lang_dialect.proofs.WritingLemmas.{found_writing}
use Rattle.timefd_lang_dialect.proofs.writing.row_writing.Goals as goal

pub returns-clause-chosen : goal.returns-clause-chosen
returns-clause-chosen c =
    c.best_at.ensures
    ∙ ap (λ keys. best_at None keys (groups_of c.args.dialect) c.args.text.now) c.keys.ensures

pub returns-clause-there : goal.returns-clause-there
returns-clause-there c =
    found_writing c.args.dialect c.args.text.now c.keys.result.now c.best_at.result
    c.keys.ensures c.best_at.ensures
