use Rattle.std.proofs.Common.{◌≡◌, ◌++◌, codes, flat_map, drop, string_bytes}
use Rattle.timefd_lang_warnings.specs.Codes.{name_of}
use Rattle.timefd_lint.proofs.arguments.push_more.Given as goal

abbrev pub invariant-loop-warning : goal.invariant-loop-warning
invariant-loop-warning l = string_bytes l.names ++ flat_map (λ warning. codes ", " ++ name_of warning)
    (drop l.warning-index l.warnings) ≡ string_bytes l.fn.names
    ++ flat_map (λ warning. codes ", " ++ name_of warning) l.warnings
