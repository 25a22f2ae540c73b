-- Lists of values of JSON, built one value at a time.
use Rattle.std.proofs.Common.{ℕ, ◌≡◌, ◌∙◌, ◌+◌, ◌<◌, ◌≤◌, ◌++◌, List, [], ◌∷◌, ap, append_assoc, append-nil, drop, get_or, length, map, sym}
use Rattle.std.proofs.lemmas.List.{drop_all, drop_more, map-append}
use Rattle.serde_json.specs.Data.{Data, array}
use Rattle.serde_json.specs.View.{items_of, view}
use Rattle.serde_json.specs.declared.value.Value.{Value}

-- So far the values are those of the items before an index.
abbrev pub AreSoFar : {T : Type 0} → (T → Data) → List T → ℕ → List Value → Type 0
AreSoFar shown all i values = map view values ++ map shown (drop i all) ≡ map shown all

pub one_more : {T : Type 0} (shown : T → Data) (all : List T) (i : ℕ) (item other : T) (value : Value)
    (values now : List Value) → i < length all → item ≡ get_or all i other → view value ≡ shown item
    → now ≡ values ++ value ∷ [] → AreSoFar shown all i values → AreSoFar shown all (i + 1) now
one_more {T} shown all i item other value values now below at is pushed so_far =
    let after : List T = drop (i + 1) all in
    let left : drop i all ≡ item ∷ after = drop_more all i other below ∙ ap (λ x. x ∷ after) (sym at) in
    ap (λ vs. map view vs ++ map shown after) pushed
    ∙ (ap (λ ds. ds ++ map shown after) (map-append view values (value ∷ []))
    ∙ (append_assoc (map view values) (view value ∷ []) (map shown after)
    ∙ (ap (λ d. map view values ++ d ∷ map shown after) is
    ∙ (ap (λ items. map view values ++ map shown items) (sym left) ∙ so_far))))

pub at_last : {T : Type 0} (shown : T → Data) (all : List T) (i : ℕ) (values : List Value) → length all ≤ i
    → AreSoFar shown all i values → array (items_of (map view values)) ≡ array (items_of (map shown all))
at_last shown all i values none so_far =
    ap (λ ds. array (items_of ds)) (sym (append-nil (map view values))
    ∙ (ap (λ items. map view values ++ map shown items) (sym (drop_all i all none)) ∙ so_far))
