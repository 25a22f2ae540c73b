use Rattle.std.proofs.Common.{◌≡◌, ◌+◌, drop}
use Rattle.std.specs.List.{prefix_len}
use Rattle.timefd_lang_dialect.specs.Plain.{is_plain}
use Rattle.timefd_lang_dialect.proofs.plain.plain_len.Given as goal

abbrev pub invariant-loop-at : goal.invariant-loop-at
invariant-loop-at l = l.at + prefix_len (is_plain l.dialect) (drop l.at l.bytes)
    ≡ prefix_len (is_plain l.dialect) l.bytes
