use Rattle.std.proofs.Common.{◌≡◌, ◌≤◌, ◌++◌, length}
use denote.Text.{Utf8}
use denote.Shadow.{shadow}
use Rattle.timefd_lang_component.specs.Tree.{Text}
use Rattle.timefd_language.specs.Head.{Head, IsHead, head_text}
use Rattle.timefd_lint_explain.specs.Inside.{EndsHead}
use Rattle.timefd_lint_explain.proofs.HeadLemmas.{Modified}
use Rattle.timefd_lint_explain.proofs.tree.after_head.Given as goal

-- The modifiers that are left.
abbrev pub invariant-modifiers : goal.invariant-modifiers
invariant-modifiers l =
    shadow (Utf8 l.rest) × (length l.rest ≤ length l.text)
    × ((h : Head) (after : Text) → IsHead h → EndsHead after → l.text ≡ head_text h ++ after
    → Modified after l.rest)

abbrev pub decreases-modifiers : goal.decreases-modifiers
decreases-modifiers l = length l.rest
