-- Rules about runs, escapes and closing brackets.
use Rattle.std.proofs.Common.{[], ◌∷◌, append-nil, refl, sym}
use Rattle.timefd_language.specs.declared.description_version.DescriptionVersion.TheVariants.{One, Two, Three}
use Rattle.timefd_language.specs.Bytes.{left, backslash}
use Rattle.timefd_language.specs.Grammar.{no_pieces, run, escape, closing}
use Rattle.timefd_language.specs.Broken.{bare_closing, half_escape}
use Rattle.timefd_laws.specs.Escapes.{RunIsLiteral, BackslashInVersionOne, DoubledBracket, EscapedByte, EscapeWanted, EscapeWantedAtTheEnd, ClosingIsLiteral, ClosingWantsEscape}

pub run_is_literal : RunIsLiteral
run_is_literal v limit n bytes are =
    (run bytes no_pieces, (are, tt, tt), sym (append-nil bytes), refl)

pub backslash_in_version_one : BackslashInVersionOne
backslash_in_version_one limit n = run_is_literal One limit n (backslash ∷ []) refl

pub doubled_bracket : DoubledBracket
doubled_bracket limit n = (escape left left no_pieces, ((refl, refl), tt), refl, refl)

pub escaped_byte : EscapedByte
escaped_byte One limit n b escapes special = absurd cc
escaped_byte Two limit n b escapes special =
    (escape backslash b no_pieces, ((refl, special), tt), refl, refl)
escaped_byte Three limit n b escapes special =
    (escape backslash b no_pieces, ((refl, special), tt), refl, refl)

pub escape_wanted : EscapeWanted
escape_wanted v limit n b rest escapes other =
    (half_escape (b ∷ rest), (escapes, other), refl, refl)

pub escape_wanted_at_the_end : EscapeWantedAtTheEnd
escape_wanted_at_the_end v limit n escapes = (half_escape [], (escapes, tt), refl, refl)

pub closing_is_literal : ClosingIsLiteral
closing_is_literal v limit lax = (closing no_pieces, (lax, refl, tt), refl, refl)

pub closing_wants_escape : ClosingWantsEscape
closing_wants_escape limit rest = (bare_closing rest, (refl, refl), refl, refl)
