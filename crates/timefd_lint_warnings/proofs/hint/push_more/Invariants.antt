use Rattle.std.proofs.Common.{◌≡◌, ◌++◌, codes, flat_map, drop, string_bytes}
use Rattle.timefd_lang_dialect.specs.Dialects.{name_of}
use Rattle.timefd_lint_warnings.proofs.hint.push_more.Given as goal

abbrev pub invariant-loop-dialect : goal.invariant-loop-dialect
invariant-loop-dialect l = string_bytes l.names ++ flat_map (λ dialect. codes ", " ++ name_of dialect)
    (drop l.dialect-index l.more) ≡ string_bytes l.fn.names
    ++ flat_map (λ dialect. codes ", " ++ name_of dialect) l.more
