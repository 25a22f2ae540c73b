-- What is wanted by some kinds, one after another.
use Rattle.std.proofs.Common.{ℕ, ◌≡◌, ◌+◌, ◌<◌, ◌≤◌, List, ◌∷◌, ap, drop, get_or, length, subst, sym, ◌∙◌}
use Rattle.std.proofs.lemmas.List.{drop_all, drop_more}
use Rattle.serde_json.specs.View.{items_view, view}
use Rattle.serde_json.specs.declared.value.Value.{Value}
use Rattle.timefd_lint_lsp.specs.declared.editor.action.WantedActions.{WantedActions}
use Rattle.timefd_lint_lsp.specs.WantedKinds.{either, wanted_by, wanted_from}

pub one_more : (all : List Value) (i : ℕ) (kind other : Value) (so_far now whole : WantedActions) → i < length all
    → kind ≡ get_or all i other → now ≡ either so_far (wanted_by (view kind))
    → wanted_from so_far (items_view (drop i all)) ≡ whole → wanted_from now (items_view (drop (i + 1) all)) ≡ whole
one_more all i kind other so_far now whole below at is before =
    let left : drop i all ≡ kind ∷ drop (i + 1) all =
    drop_more all i other below ∙ ap (λ x. x ∷ drop (i + 1) all) (sym at) in
    subst (λ w. wanted_from w (items_view (drop (i + 1) all)) ≡ whole) (sym is)
    (subst (λ l. wanted_from so_far (items_view l) ≡ whole) left before)

pub at_last : (all : List Value) (i : ℕ) (so_far whole : WantedActions) → length all ≤ i
    → wanted_from so_far (items_view (drop i all)) ≡ whole → so_far ≡ whole
at_last all i so_far whole none before =
    subst (λ l. wanted_from so_far (items_view l) ≡ whole) (drop_all i all none) before
