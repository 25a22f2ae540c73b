use Rattle.std.proofs.Common.{◌≡◌, drop}
use Rattle.timefd_lang_dialect.specs.Best.{best_from}
use Rattle.timefd_lang_dialect.specs.Rows.{entries, found_entry}
use Rattle.timefd_lang_dialect.proofs.writing.best_from.Given as goal

-- the best so far and the remaining rows decide
abbrev pub invariant-rows : goal.invariant-rows
invariant-rows l =
    best_from (found_entry l.best) (entries (drop l.at l.rows)) l.text
    ≡ best_from (found_entry l.fn.best) (entries l.rows) l.text
