use Rattle.std.proofs.Common.{length}
use denote.Text.{Utf8}
use denote.Shadow.{shadow}
use Rattle.timefd_lint_lsp.specs.Editor.SlotSearches.{IsAfterSome}
use Rattle.timefd_lint_lsp.proofs.editor.slot.after_modifiers.Given as goal

-- the modifiers so far
abbrev pub invariant-modifiers : goal.invariant-modifiers
invariant-modifiers l = shadow (Utf8 l.rest) × IsAfterSome l.text l.rest

abbrev pub decreases-modifiers : goal.decreases-modifiers
decreases-modifiers l = length l.rest
