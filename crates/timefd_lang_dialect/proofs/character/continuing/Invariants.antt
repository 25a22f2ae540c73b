use Rattle.std.proofs.Common.{◌≡◌, ◌+◌, drop}
use Rattle.std.specs.List.{prefix_len}
use Rattle.timefd_lang_dialect.specs.Quotes.{continues}
use Rattle.timefd_lang_dialect.proofs.character.continuing.Given as goal

abbrev pub invariant-loop-at : goal.invariant-loop-at
invariant-loop-at l = l.at + prefix_len continues (drop l.at l.bytes)
    ≡ prefix_len continues l.bytes
