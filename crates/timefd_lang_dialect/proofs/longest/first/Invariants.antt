use Rattle.std.proofs.Common.{◌≡◌, drop}
use Rattle.timefd_lang_dialect.specs.Groups.{first_standing}
use Rattle.timefd_lang_dialect.specs.Rows.{entries}
use Rattle.timefd_lang_dialect.proofs.longest.first.Given as goal

-- the remaining rows decide
abbrev pub invariant-rows : goal.invariant-rows
invariant-rows l =
    first_standing (entries (drop l.at l.rows)) l.text ≡ first_standing (entries l.rows) l.text
