-- The words that are offered, in a walk that adds one after another.
use Rattle.std.proofs.Common.{ℕ, ◌≡◌, ◌<◌, ◌≤◌, ◌+◌, cond, Bool, true, false, List, [], ◌∷◌, ◌++◌, length, drop, get_or, append-nil, append_assoc, refl, sym, ap, ◌∙◌}
use Rattle.std.proofs.lemmas.List.{drop_all, drop_more, map-append}
use Rattle.std.specs.Borrow.{Bor}
use Rattle.std.specs.List.{filter}
use Rattle.timefd_parse.specs.Tree.{Text}
use Rattle.timefd_lint_diagnosis.specs.Words.{texts}

kept : (test : Text → Bool) (word : Text) (t : Bool) → test word ≡ t → filter test (word ∷ []) ≡ cond t (word ∷ []) []
kept test word t is = ap (λ b. cond b (word ∷ []) []) is

pub one_kept : (test : Text → Bool) (word : Bor Text) (old new : List (Bor Text)) (is : Bool) → is ≡ test word.now
    → is ≡ true → new ≡ old ++ word ∷ [] → texts new ≡ texts old ++ filter test (word.now ∷ [])
one_kept test word old new is said so pushed =
    ap texts pushed ∙ map-append (λ w. w.now) old (word ∷ [])
    ∙ ap (λ ws. texts old ++ ws) (sym (kept test word.now true (sym said ∙ so)))

pub none_kept : (test : Text → Bool) (word : Bor Text) (old : List (Bor Text)) (is : Bool) → is ≡ test word.now
    → is ≡ false → texts old ≡ texts old ++ filter test (word.now ∷ [])
none_kept test word old is said so =
    sym (ap (λ ws. texts old ++ ws) (kept test word.now false (sym said ∙ so)) ∙ append-nil (texts old))

joined : (test : Text → Bool) (word : Text) (rest : List Text)
    → filter test (word ∷ []) ++ filter test rest ≡ filter test (word ∷ rest)
joined test word rest = by (test word)
  where
    by : (t : Bool) → cond t (word ∷ []) [] ++ filter test rest ≡ cond t (word ∷ filter test rest) (filter test rest)
    by true = refl
    by false = refl

pub one_more : (test : Text → Bool) (all : List (Bor Text)) (i : ℕ) (word other : Bor Text) (so_far next : List (Bor Text))
    (whole : List Text) → i < length all → word ≡ get_or all i other
    → texts next ≡ texts so_far ++ filter test (word.now ∷ [])
    → texts so_far ++ filter test (texts (drop i all)) ≡ whole
    → texts next ++ filter test (texts (drop (i + 1) all)) ≡ whole
one_more test all i word other so_far next whole below is added before =
    let after : List Text = texts (drop (i + 1) all) in
    let left : drop i all ≡ word ∷ drop (i + 1) all =
    drop_more all i other below ∙ ap (λ w. w ∷ drop (i + 1) all) (sym is) in
    ap (λ ws. ws ++ filter test after) added
    ∙ append_assoc (texts so_far) (filter test (word.now ∷ [])) (filter test after)
    ∙ ap (λ ws. texts so_far ++ ws) (joined test word.now after)
    ∙ ap (λ ws. texts so_far ++ filter test (texts ws)) (sym left) ∙ before

pub at_last : (test : Text → Bool) (all : List (Bor Text)) (i : ℕ) (so_far : List (Bor Text)) (whole : List Text)
    → length all ≤ i → texts so_far ++ filter test (texts (drop i all)) ≡ whole → texts so_far ≡ whole
at_last test all i so_far whole none before =
    sym (append-nil (texts so_far))
    ∙ ap (λ ws. texts so_far ++ filter test (texts ws)) (sym (drop_all i all none)) ∙ before
