-- A word that looks like an option, and the option that is nearest to it.
use Rattle.std.proofs.Common.{◌≡◌, Option, Result, Ok, Err}
use Rattle.std.specs.Prelude.{IfOk, string_bytes}
use Rattle.std.specs.declared.alloc.Global.{Global}
use Rattle.std.specs.declared.string.String.{String}
use Rattle.timefd_parse.specs.Tree.{Text}
use Rattle.timefd_lint_diagnosis.specs.Nearest.{IsNearest}
use Rattle.timefd_lint_options.specs.Suggestions.{long_names}
use Rattle.timefd_lint.specs.Arguments.{IsUnknown, unknown}

pub nearest_named : {E : Type 0} (answer : Result (String Global) E) (word : Text) (nearest : Option Text)
    → IsNearest long_names word nearest → IfOk answer (λ text. string_bytes text ≡ unknown word nearest)
    → IfOk answer (λ text. IsUnknown word (string_bytes text))
nearest_named (Ok text) word nearest near is = (nearest, near, is)
nearest_named (Err e) word nearest near is = tt
