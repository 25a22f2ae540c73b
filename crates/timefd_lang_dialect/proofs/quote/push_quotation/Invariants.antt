use Rattle.std.proofs.Common.{◌≡◌, ◌≤◌, ◌++◌, length, string_bytes}
use denote.Text.{Utf8}
use denote.Shadow.{shadow}
use Rattle.timefd_lang_component.specs.Tree.{Text}
use Rattle.timefd_lang_dialect.specs.Quotes.{escaped, quotation}
use Rattle.timefd_lang_dialect.specs.QuoteSteps.{with_front}
use Rattle.timefd_lang_dialect.proofs.quote.push_quotation.Given as goal

-- what was quoted so far is written, and the rest decides
abbrev pub invariant-characters : goal.invariant-characters
invariant-characters l =
    shadow (Utf8 l.rest)
    × (bytes : Text) × (string_bytes l.answer ≡ string_bytes l.fn.answer ++ escaped bytes)
    × (quotation l.after ≡ with_front bytes (quotation l.rest))
    × (length l.rest ≤ length l.after)

abbrev pub decreases-characters : goal.decreases-characters
decreases-characters l = length l.rest
