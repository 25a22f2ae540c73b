use Rattle.std.proofs.Common.{◌≡◌, ◌<◌, drop}
use Rattle.std.specs.Prelude.{IfSome, length, slice_index}
use Rattle.timefd_lang_dialect.specs.Quotes.{closing, closing_from}
use Rattle.timefd_language.specs.Bytes.{right}
use Rattle.timefd_lang_dialect.proofs.quote.closing.Given as goal

abbrev pub invariant-bytes : goal.invariant-bytes
invariant-bytes l =
    (closing_from l.at l.last (drop l.at l.after) ≡ closing l.after)
    × IfSome l.last (λ at. at < length l.after)
    × IfSome l.last (λ at. slice_index l.after at ≡ right)
