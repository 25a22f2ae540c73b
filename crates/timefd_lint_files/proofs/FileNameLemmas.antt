-- Tokens that match within a name match the last name of a path alone.
use Rattle.std.proofs.Common.{◌≡◌, ℕ, ◌+◌, ◌-◌, ◌<◌, ◌≤◌, ◌≢◌, Bool, true, false, List, [], ◌∷◌, length, get_or, take, drop, refl, ◌∙◌, sym, add-one, arith, zero, suc, inl, inr, take_all}
use Rattle.std.specs.Prelude.{◌&&◌, ◌||◌, ◌==◌}
use Rattle.std.proofs.Math.Seq.{drop-cons, drop-length}
use Rattle.std.proofs.lemmas.Bool.{and_parts, or_cases, not-true, eqb-true, eqb-false, eq-eqb, ne_eqb, cases_Bool, or_parts, or_left, or_right}
use Rattle.std.proofs.lemmas.List.{length-drop}
use Rattle.timefd_lint_files.specs.declared.token.PatternToken.{PatternToken}
use Rattle.timefd_lint_files.specs.declared.token.PatternToken.TheVariants.{Byte, Any, OneOf, Star, Folders, Rest, Nothing}
use Rattle.timefd_lint_files.specs.FileNames.{are_of_name, are_within_name, file_name, is_within_name}
use Rattle.timefd_lint_files.specs.Lines.{has_slash}
use Rattle.timefd_lint_files.specs.Matching.{Text, slash, matches, takes, takes_none, takes_some}
use Rattle.timefd_lint_files.proofs.EndLemmas.{and_false, nothing_on}

-- A token that matches within a name matches no slash.
on_slash : (token : PatternToken) (byte : ℕ) (fits on : Bool) → is_within_name token ≡ true → (byte == slash) ≡ true
    → takes token byte fits on ≡ false
on_slash (Byte own) byte fits on within is =
    let other : byte ≢ own = λ e. eqb-false own slash (not-true (own == slash) within) (sym e ∙ eqb-true byte slash is) in
    rw (ne_eqb byte own other) refl
on_slash Any byte fits on within is = rw is refl
on_slash (OneOf class) byte fits on within is = rw is refl
on_slash Star byte fits on within is = rw is refl
on_slash Folders byte fits on within is = absurd cc
on_slash Rest byte fits on within is = absurd cc
on_slash Nothing byte fits on within is = refl

some_with_slash : (token : PatternToken) (test : Text → Bool) (path : Text) → is_within_name token ≡ true
    → ((rest : Text) → has_slash rest ≡ true → test rest ≡ false) → has_slash path ≡ true
    → takes_some token test path ≡ false
some_with_slash token test [] within none slashes = absurd cc
some_with_slash token test (byte ∷ bytes) within none slashes =
    elim (or_cases (byte == slash) (has_slash bytes) slashes) [
      | inl here ↦ on_slash token byte (test bytes) (takes_some token test bytes) within here
      | inr after ↦
          rw (none bytes after, some_with_slash token test bytes within none after) (nothing_on token byte)
    ]

none_with_slash : (tokens : List PatternToken) (path : Text) → are_within_name tokens ≡ true → has_slash path ≡ true
    → matches tokens path ≡ false
none_with_slash [] [] within slashes = absurd cc
none_with_slash [] (byte ∷ bytes) within slashes = refl
none_with_slash (token ∷ tokens) path within slashes =
    let parts = and_parts (is_within_name token) (are_within_name tokens) within in
    let after : (rest : Text) → has_slash rest ≡ true → matches tokens rest ≡ false =
    λ rest is. none_with_slash tokens rest parts.1 is in
    rw (some_with_slash token (matches tokens) path parts.0 after slashes, after path slashes)
    (and_false (takes_none token))

no_folders : (test : Text → Bool) (path : Text) → has_slash path ≡ false → takes_some Folders test path ≡ false
no_folders test [] none = refl
no_folders test (byte ∷ bytes) none =
    let parts = or_parts (byte == slash) (has_slash bytes) none in
    rw (no_folders test bytes parts.1, parts.0) refl

or_false : (a : Bool) → (a || false) ≡ a
or_false true = refl
or_false false = refl

twice_false : (a x : Bool) → ((a || (x && false)) || false) ≡ (a || false)
twice_false a true = or_false (a || false)
twice_false a false = or_false (a || false)

-- Any folders, and then tokens that match within a name, match the last name.
last_alone : (tokens : List PatternToken) (path : Text) → are_within_name tokens ≡ true
    → matches (Folders ∷ tokens) path ≡ matches tokens (file_name path)
last_alone tokens [] within = refl
last_alone tokens (byte ∷ bytes) within = elim (cases_Bool (has_slash bytes)) [
  | inl slashes ↦
      let after = none_with_slash tokens bytes within slashes in
      let whole = none_with_slash tokens (byte ∷ bytes) within (or_right (byte == slash) (has_slash bytes) slashes) in
      let more : (takes_some Folders (matches tokens) bytes || matches tokens bytes) ≡ matches tokens (file_name bytes) =
      last_alone tokens bytes within in
      rw (whole, slashes, after) (twice_false (takes_some Folders (matches tokens) bytes) (byte == slash)
      ∙ (rw after at more))
  | inr none ↦ elim (cases_Bool (byte == slash)) [
    | inl here ↦
        let whole = none_with_slash tokens (byte ∷ bytes) within (or_left (byte == slash) (has_slash bytes) here) in
        rw (whole, none, here, no_folders (matches tokens) bytes none) (or_false (matches tokens bytes))
    | inr other ↦ rw (none, other, no_folders (matches tokens) bytes none) refl
  ]
]

pub of_name : (tokens : List PatternToken) (path : Text) → are_of_name tokens ≡ true
    → matches tokens path ≡ matches (drop 1 tokens) (file_name path)
of_name [] path is = absurd cc
of_name (Byte own ∷ tokens) path is = absurd cc
of_name (Any ∷ tokens) path is = absurd cc
of_name (OneOf class ∷ tokens) path is = absurd cc
of_name (Star ∷ tokens) path is = absurd cc
of_name (Folders ∷ tokens) path is = last_alone tokens path is
of_name (Rest ∷ tokens) path is = absurd cc
of_name (Nothing ∷ tokens) path is = absurd cc

-- that for tokens as a slice
pub name_alone : (tokens : List PatternToken) (path name : Text) → are_of_name tokens ≡ true → name ≡ file_name path
    → matches (take (length tokens - 1) (drop 1 tokens)) name ≡ matches tokens path
name_alone tokens path name is name_is =
    let all : take (length tokens - 1) (drop 1 tokens) ≡ drop 1 tokens =
    take_all (length tokens - 1) (drop 1 tokens) (omega (arith, length-drop {A = PatternToken})) in
    rw (all, name_is) (sym (of_name tokens path is))

-- The last name, from the end of the path on.
slash_at : (path : Text) (at : ℕ) → at < length path → get_or path at 0 ≡ slash → has_slash path ≡ true
slash_at [] at lt is = absurd (omega arith)
slash_at (byte ∷ bytes) zero lt is = or_left (byte == slash) (has_slash bytes) (eq-eqb byte slash is)
slash_at (byte ∷ bytes) (suc at) lt is =
    or_right (byte == slash) (has_slash bytes) (slash_at bytes at (omega arith) is)

after_last : (path : Text) (at : ℕ) → at < length path → get_or path at 0 ≡ slash
    → has_slash (drop (suc at) path) ≡ false → file_name path ≡ drop (suc at) path
after_last [] at lt is none = absurd (omega arith)
after_last (byte ∷ bytes) zero lt is none = rw (none, eq-eqb byte slash is) refl
after_last (byte ∷ bytes) (suc at) lt is none =
    rw (slash_at bytes at (omega arith) is) (after_last bytes at (omega arith) is none)

pub after_slash : (path : Text) (from : ℕ) → 0 < from → from ≤ length path → get_or path (from - 1) 0 ≡ slash
    → has_slash (drop from path) ≡ false → take (length path - from) (drop from path) ≡ file_name path
after_slash path from some within is none =
    let next : from ≡ suc (from - 1) = omega arith in
    let all : take (length path - from) (drop from path) ≡ drop from path =
    take_all (length path - from) (drop from path) (omega (arith, length-drop {A = ℕ})) in
    let cut : file_name path ≡ drop (suc (from - 1)) path =
    after_last path (from - 1) (omega arith) is (rw next at none) in
    all ∙ (rw next (sym cut))

pub none_yet : (path : Text) → has_slash (drop (length path) path) ≡ false
none_yet path = rw drop-length refl

pub one_byte : (path : Text) (to from : ℕ) → to + 1 ≡ from → from ≤ length path → get_or path to 0 ≢ slash
    → has_slash (drop from path) ≡ false → has_slash (drop to path) ≡ false
one_byte path to from next within other none =
    let cut : drop to path ≡ get_or path to 0 ∷ drop from path = rw (← next, add-one) (drop-cons path to 0 (omega arith)) in
    rw (cut, ne_eqb (get_or path to 0) slash other) none

pub no_slash : (path : Text) → has_slash path ≡ false → path ≡ file_name path
no_slash [] none = refl
no_slash (byte ∷ bytes) none =
    let parts = or_parts (byte == slash) (has_slash bytes) none in
    rw (parts.1, parts.0) refl
