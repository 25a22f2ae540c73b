-- Rows of a path, position by position from its end on.
use Rattle.std.proofs.Common.{◌≡◌, ℕ, ◌+◌, ◌<◌, ◌≤◌, ◌≢◌, Bool, true, false, List, [], ◌∷◌, length, get_or, drop, refl, ap, ◌∙◌, add-one, arith, get_or-set_other, get_or-set_same, inl, inr, take, take_all, ◌-◌, zero, suc, ◌++◌, replicate, length-append}
use Rattle.std.specs.Prelude.{◌&&◌, ◌||◌}
use Rattle.std.proofs.Math.ListN.{set, length-set}
use Rattle.std.proofs.Math.Seq.{drop-cons, drop-length}
use Rattle.std.proofs.Math.Nat.{eq-or-lt_of_le}
use Rattle.std.proofs.lemmas.List.{length-drop, length-replicate}
use Rattle.timefd_lint_files.specs.declared.token.PatternToken.{PatternToken}
use Rattle.timefd_lint_files.specs.Matching.{Text, IsRow, matches, takes, takes_none, takes_some}

-- From this position on, the row is that of the token and those after it. Before it, the row is that of the
-- later tokens alone.
pub record IsTurned (token : PatternToken) (after : List PatternToken) (path : Text) (row : List Bool) (at : ℕ) (fit on : Bool) : Type 0 where
  pub len : length row ≡ length path + 1
  pub within : at ≤ length path
  pub fits : fit ≡ matches after (drop at path)
  pub goes_on : on ≡ takes_some token (matches after) (drop at path)
  pub before : (k : ℕ) → k < at → get_or row k false ≡ matches after (drop k path)
  pub from : (k : ℕ) → at ≤ k → k ≤ length path
      → get_or row k false ≡ matches (token ∷ after) (drop k path)

-- at the end of the path
pub at_end : (token : PatternToken) (after : List PatternToken) (path : Text) (row : List Bool) → IsRow after path row
    → IsTurned token after path (set row (length path) (takes_none token && get_or row (length path) false))
    (length path) (get_or row (length path) false) false
at_end token after path row is =
    let n = length path in
    let here : get_or row n false ≡ matches after (drop n path) = is.each n (omega arith) in
    let gone : false ≡ takes_some token (matches after) (drop n path) = rw drop-length refl in
    let inside : n < length row = omega (arith, is.len) in record {
      len = length-set row n (takes_none token && get_or row n false) ∙ is.len;
      within = omega arith;
      fits = here;
      goes_on = gone;
      before = λ k lt. let ne : k ≢ n = omega arith in
          get_or-set_other row n k (takes_none token && get_or row n false) false ne ∙ is.each k (omega arith);
      from = λ k ge le. let e : k ≡ n = omega arith in
          rw e (get_or-set_same row n (takes_none token && get_or row n false) false inside ∙
          ap (λ b. takes_none token && b) here ∙
          ap (λ g. g || (takes_none token && matches after (drop n path))) gone);
    }

-- one position earlier
pub one_more : (token : PatternToken) (after : List PatternToken) (path : Text) (row : List Bool) (at to : ℕ)
    (fits goes_on : Bool) → to + 1 ≡ at → IsTurned token after path row at fits goes_on
    → IsTurned token after path
    (set row to (takes token (get_or path to 0) fits goes_on || (takes_none token && get_or row to false)))
    to (get_or row to false) (takes token (get_or path to 0) fits goes_on)
one_more token after path row at to fits goes_on next is =
    let byte = get_or path to 0 in
    let goes = takes token byte fits goes_on in
    let value = goes || (takes_none token && get_or row to false) in
    let lt : to < length path = omega (arith, is.within) in
    let inside : to < length row = omega (arith, is.len) in
    let cut : drop to path ≡ byte ∷ drop at path = rw (← next, add-one) (drop-cons path to 0 lt) in
    let here : get_or row to false ≡ matches after (drop to path) = is.before to (omega arith) in
    let gone : goes ≡ takes_some token (matches after) (drop to path) =
    rw cut (ap (λ f. takes token byte f goes_on) is.fits ∙
    ap (takes token byte (matches after (drop at path))) is.goes_on) in record {
      len = length-set row to value ∙ is.len;
      within = omega arith;
      fits = here;
      goes_on = gone;
      before = λ k below. let ne : k ≢ to = omega arith in
          get_or-set_other row to k value false ne ∙ is.before k (omega arith);
      from = λ k ge le. from_position token after path row at to value next is
          (get_or-set_same row to value false inside ∙
          ap (λ b. goes || (takes_none token && b)) here ∙
          ap (λ g. g || (takes_none token && matches after (drop to path))) gone) k ge le;
    }
  where
    from_position : (token : PatternToken) (after : List PatternToken) (path : Text) (row : List Bool) (at to : ℕ) (value : Bool)
        {fits goes_on : Bool} → to + 1 ≡ at → IsTurned token after path row at fits goes_on
        → get_or (set row to value) to false ≡ matches (token ∷ after) (drop to path)
        → (k : ℕ) → to ≤ k → k ≤ length path
        → get_or (set row to value) k false ≡ matches (token ∷ after) (drop k path)
    from_position token after path row at to value next is here k ge le = elim (eq-or-lt_of_le ge) [
      | inl e ↦ rw (← e) here
      | inr lt ↦ let ne : k ≢ to = omega arith in
          get_or-set_other row to k value false ne ∙ is.from k (omega arith) le
    ]

pub whole : (tokens : List PatternToken) (token : PatternToken) (path : Text) (row : List Bool) (at : ℕ) (fits goes_on : Bool)
    → tokens ≡ token ∷ drop 1 tokens → at ≡ 0
    → IsTurned token (drop 1 tokens) path row at fits goes_on → IsRow tokens path row
whole tokens token path row at fits goes_on cut e is =
    rw cut (record { len = is.len; each = λ k le. is.from k (omega arith) le })

-- The tokens from an index on, as a slice.
pub from_on : (tokens : List PatternToken) (n : ℕ) → take (length tokens - n) (drop n tokens) ≡ drop n tokens
from_on tokens n = take_all (length tokens - n) (drop n tokens) (omega (arith, length-drop {A = PatternToken}))

drop_next : (tokens : List PatternToken) (to from : ℕ) → to + 1 ≡ from → from ≤ length tokens
    → drop 1 (drop to tokens) ≡ drop from tokens
drop_next [] to from e le = absurd (omega arith)
drop_next (t ∷ tokens) to from e le =
    let lt : to < length (t ∷ tokens) = omega arith in
    rw (drop-cons (t ∷ tokens) to t lt, ← e, add-one) refl

pub after_first : (tokens : List PatternToken) (path : Text) (row : List Bool) (to from : ℕ) → to + 1 ≡ from
    → from ≤ length tokens → IsRow (drop from tokens) path row
    → IsRow (drop 1 (take (length tokens - to) (drop to tokens))) path row
after_first tokens path row to from e le is = rw (from_on, drop_next tokens to from e le) is

pub as_slice : (tokens : List PatternToken) (path : Text) (row : List Bool) (n : ℕ)
    → IsRow (take (length tokens - n) (drop n tokens)) path row → IsRow (drop n tokens) path row
as_slice tokens path row n is = rw from_on at is

-- No tokens match the end of a path alone.
pub none_first : (path : Text) (row : List Bool) → row ≡ replicate (length path) false ++ true ∷ []
    → IsRow [] path row
none_first path row e = rw e (record {
  len = simp (length-append, length-replicate) refl;
  each = none_at path;
})
  where
    none_at : (path : Text) (k : ℕ) → k ≤ length path
        → get_or (replicate (length path) false ++ true ∷ []) k false ≡ matches [] (drop k path)
    none_at [] k le = let e : k ≡ 0 = omega arith in rw e refl
    none_at (b ∷ bytes) zero le = refl
    none_at (b ∷ bytes) (suc k) le = none_at bytes k (omega arith)
