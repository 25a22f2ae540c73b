use Rattle.std.proofs.Common.{◌≡◌, ◌++◌, length, string_bytes}
use denote.Text.{Utf8}
use denote.Shadow.{shadow}
use Rattle.timefd_language.specs.declared.description_version.DescriptionVersion.TheVariants.{Three}
use Rattle.timefd_language.specs.Bytes.{is_run_byte, StopsBefore}
use Rattle.timefd_lang_convert.specs.Printing.Printed.{escaped}
use Rattle.timefd_lang_convert.proofs.printing.literal.push_literal.Given as goal

-- what is written so far, and what is written for the rest, is what is written for the literal
abbrev pub invariant-loop-special : goal.invariant-loop-special
invariant-loop-special l =
    shadow (Utf8 l.rest)
    × (string_bytes l.text ++ escaped l.rest ≡ string_bytes l.fn.text ++ escaped l.literal)
    × StopsBefore (is_run_byte Three) l.rest

abbrev pub decreases-loop-special : goal.decreases-loop-special
decreases-loop-special l = length l.rest
