use Rattle.std.proofs.Common.{◌≤◌, ◌+◌, IsUtf8, chars}
use Rattle.std.specs.Str.Iter.{chars_rest}
use Rattle.timefd_lint_diagnosis.specs.Nearest.{lacking}
use Rattle.timefd_lint_diagnosis.proofs.nearest.lacking.Given as goal

-- the characters so far, and those that are left
abbrev pub invariant-loop-character : goal.invariant-loop-character
invariant-loop-character l =
    IsUtf8 (chars_rest l.character-iterator)
    × (l.count + lacking (chars l.other) (chars (chars_rest l.character-iterator))
    ≤ lacking (chars l.other) (chars l.fn.word))
