use Rattle.std.proofs.Common.{◌≡◌, ◌++◌, codes, flat_map, drop, string_bytes}
use Rattle.timefd_lint_drawing.specs.HelpText.{quoted}
use Rattle.timefd_lint_drawing.proofs.help_text.push_others.Given as goal

abbrev pub invariant-loop-word : goal.invariant-loop-word
invariant-loop-word l = string_bytes l.out ++ flat_map (λ word. codes ", " ++ quoted word)
    (drop l.word-index l.words) ≡ string_bytes l.fn.out
    ++ flat_map (λ word. codes ", " ++ quoted word) l.words
