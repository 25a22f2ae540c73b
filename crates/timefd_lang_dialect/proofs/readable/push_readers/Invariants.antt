use Rattle.std.proofs.Common.{◌≡◌, ◌++◌, drop}
use Rattle.std.specs.List.{filter}
use Rattle.timefd_lang_dialect.specs.Readers.{reads}
use Rattle.timefd_lang_dialect.proofs.readable.push_readers.Given as goal

-- the remaining dialects that read the text come after
abbrev pub invariant-loop-dialect : goal.invariant-loop-dialect
invariant-loop-dialect l =
    l.found.items ++ filter (reads l.text) (drop l.dialect-index l.dialects)
    ≡ l.fn.found.items ++ filter (reads l.text) l.dialects
