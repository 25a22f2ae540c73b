use Rattle.std.proofs.Common.{◌≡◌, None, drop}
use Rattle.timefd_lang_dialect.specs.Best.{best_at}
use Rattle.timefd_lang_dialect.specs.Rows.{found_entry}
use Rattle.timefd_lang_dialect.specs.Tables.{groups_of}
use Rattle.timefd_lang_dialect.proofs.writing.best_at.Given as goal

-- the best so far and the remaining bytes decide
abbrev pub invariant-keys : goal.invariant-keys
invariant-keys l =
    best_at (found_entry l.best) (drop l.at l.keys) (groups_of l.dialect) l.text
    ≡ best_at None l.keys (groups_of l.dialect) l.text
