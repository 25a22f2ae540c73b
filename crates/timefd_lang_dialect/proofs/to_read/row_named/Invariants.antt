use Rattle.std.proofs.Common.{◌≡◌, length}
use Rattle.timefd_lang_dialect.specs.Rows.{entries}
use Rattle.timefd_lang_dialect.specs.ToRead.{named}
use Rattle.timefd_lang_dialect.proofs.to_read.row_named.Given as goal

-- the remaining rows decide
abbrev pub invariant-rows : goal.invariant-rows
invariant-rows l = named (entries l.rest) l.text ≡ named (entries l.fn.rows) l.text

abbrev pub decreases-rows : goal.decreases-rows
decreases-rows l = length l.rest
