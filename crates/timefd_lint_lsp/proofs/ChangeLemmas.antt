-- Changes of a document, one after another.
use Rattle.std.proofs.Common.{ℕ, ◌≡◌, ◌+◌, ◌<◌, ◌≤◌, ◌++◌, List, [], ◌∷◌, Option, None, Some, String, ap, append_assoc, append-nil, drop, get_or, length, map, subst, sym, ◌∙◌}
use Rattle.std.proofs.lemmas.List.{drop_all, drop_more, map-append}
use Rattle.std.specs.Prelude.{option_and_then, option_map, string_bytes}
use Rattle.std.specs.declared.alloc.Global.{Global}
use Rattle.serde_json.specs.View.{items_view, view}
use Rattle.serde_json.specs.declared.value.Value.{Value}
use Rattle.timefd_lint_lsp.specs.Changes.{Seen, after, after_all, all_changes, change_of, seen}
use Rattle.timefd_lint_lsp.specs.declared.changes.DocumentChange.{DocumentChange}

-- So far the changes are those of the values before an index.
abbrev pub AreSoFar : List Value → ℕ → List DocumentChange → Type 0
AreSoFar all i changes = map seen changes ++ all_changes (items_view (drop i all)) ≡ all_changes (items_view all)

pub one_more : (all : List Value) (i : ℕ) (value other : Value) (change : DocumentChange) (changes now : List DocumentChange)
    → i < length all → value ≡ get_or all i other → seen change ≡ change_of (view value)
    → now ≡ changes ++ change ∷ [] → AreSoFar all i changes → AreSoFar all (i + 1) now
one_more all i value other change changes now below at is pushed so_far =
    let rest : List Seen = all_changes (items_view (drop (i + 1) all)) in
    let left : drop i all ≡ value ∷ drop (i + 1) all =
    drop_more all i other below ∙ ap (λ x. x ∷ drop (i + 1) all) (sym at) in
    ap (λ cs. map seen cs ++ rest) pushed
    ∙ (ap (λ ds. ds ++ rest) (map-append seen changes (change ∷ []))
    ∙ (append_assoc (map seen changes) (seen change ∷ []) rest
    ∙ (ap (λ d. map seen changes ++ d ∷ rest) is
    ∙ (ap (λ vs. map seen changes ++ all_changes (items_view vs)) (sym left) ∙ so_far))))

pub at_last : (all : List Value) (i : ℕ) (changes : List DocumentChange) → length all ≤ i → AreSoFar all i changes
    → map seen changes ≡ all_changes (items_view all)
at_last all i changes none so_far =
    sym (append-nil (map seen changes))
    ∙ (ap (λ vs. map seen changes ++ all_changes (items_view vs)) (sym (drop_all i all none)) ∙ so_far)

-- The changes that are left lead from one text to the next.
pub one_made : (all : List DocumentChange) (i : ℕ) (change other : DocumentChange) (current next : String Global)
    (found : Option (String Global)) (text : List ℕ) (whole : Option (List ℕ)) → i < length all
    → change ≡ get_or all i other → text ≡ string_bytes current → found ≡ Some next
    → option_map string_bytes found ≡ after text change
    → after_all (string_bytes current) (drop i all) ≡ whole
    → after_all (string_bytes next) (drop (i + 1) all) ≡ whole
one_made all i change other current next found text whole below at same is made before =
    let left : drop i all ≡ change ∷ drop (i + 1) all =
    drop_more all i other below ∙ ap (λ x. x ∷ drop (i + 1) all) (sym at) in
    let after_it : Some (string_bytes next) ≡ after (string_bytes current) change =
    subst (λ t. Some (string_bytes next) ≡ after t change) same
    (subst (λ o. option_map string_bytes o ≡ after text change) is made) in
    ap (λ o. option_and_then (λ t. after_all t (drop (i + 1) all)) o) after_it
    ∙ (ap (λ cs. after_all (string_bytes current) cs) (sym left) ∙ before)

pub none_made : (all : List DocumentChange) (i : ℕ) (change other : DocumentChange) (current : String Global)
    (found : Option (String Global)) (text : List ℕ) (whole : Option (List ℕ)) → i < length all
    → change ≡ get_or all i other → text ≡ string_bytes current → found ≡ None
    → option_map string_bytes found ≡ after text change
    → after_all (string_bytes current) (drop i all) ≡ whole → None ≡ whole
none_made all i change other current found text whole below at same is made before =
    let left : drop i all ≡ change ∷ drop (i + 1) all =
    drop_more all i other below ∙ ap (λ x. x ∷ drop (i + 1) all) (sym at) in
    let after_it : None ≡ after (string_bytes current) change =
    subst (λ t. None ≡ after t change) same
    (subst (λ o. option_map string_bytes o ≡ after text change) is made) in
    ap (λ o. option_and_then (λ t. after_all t (drop (i + 1) all)) o) after_it
    ∙ (ap (λ cs. after_all (string_bytes current) cs) (sym left) ∙ before)

pub all_made : (all : List DocumentChange) (i : ℕ) (current : String Global) (whole : Option (List ℕ)) → length all ≤ i
    → after_all (string_bytes current) (drop i all) ≡ whole → Some (string_bytes current) ≡ whole
all_made all i current whole none before =
    ap (λ cs. after_all (string_bytes current) cs) (sym (drop_all i all none)) ∙ before
