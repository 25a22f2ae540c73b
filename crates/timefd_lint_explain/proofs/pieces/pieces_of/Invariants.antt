use Rattle.std.proofs.Common.{◌+◌, ◌≤◌, List, length}
use denote.Text.{Utf8}
use denote.Shadow.{shadow}
use Rattle.timefd_lang_component.specs.Tree.{Tree}
use Rattle.timefd_language.specs.Grammar.{nesting_limit}
use Rattle.timefd_parse.specs.Language.{SpellsIn}
use Rattle.timefd_lint_explain.specs.Shown.{texts}
use Rattle.timefd_lint_explain.proofs.ShownLemmas.{Continues}
use Rattle.timefd_lint_explain.proofs.pieces.pieces_of.Given as goal

-- The pieces so far.
abbrev pub invariant-pieces : goal.invariant-pieces
invariant-pieces l =
    shadow (Utf8 l.rest) × (length (texts l.shown.items) + length l.rest ≤ length l.text)
    × ((list : List Tree) → SpellsIn l.language nesting_limit l.text list
    → Continues l.language l.text list l.shown.items l.rest)

abbrev pub decreases-pieces : goal.decreases-pieces
decreases-pieces l = length l.rest
