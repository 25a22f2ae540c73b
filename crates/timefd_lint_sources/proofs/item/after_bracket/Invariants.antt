use Rattle.std.proofs.Common.{length, IsUtf8}
use Rattle.timefd_parse.specs.Tree.{Text}
use Rattle.timefd_lint_sources.specs.Items.{HasEnd}
use Rattle.timefd_lint_sources.proofs.item.after_bracket.Given as goal

-- The bracket ends where its rest ends.
abbrev pub invariant-nested : goal.invariant-nested
invariant-nested l = record {
  text : IsUtf8 l.left;
  found : (rest : Text) → HasEnd l.version l.left rest → HasEnd l.version l.text rest;
  all : (rest : Text) → HasEnd l.version l.text rest → HasEnd l.version l.left rest;
}

abbrev pub decreases-nested : goal.decreases-nested
decreases-nested l = length l.left
