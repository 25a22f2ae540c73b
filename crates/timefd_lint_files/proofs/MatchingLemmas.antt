-- The test of a pattern decides whether it matches.
use Rattle.std.proofs.Common.{◌≡◌, ℕ, ◌≢◌, Bool, true, false, List, [], ◌∷◌, ◌++◌, refl, ap, arith, inl, inr, get_or}
use Rattle.std.specs.Prelude.{not, ◌&&◌, ◌||◌, ◌==◌, ◌↔◌, IsTrue}
use Rattle.std.specs.List.{AllByRecursion}
use Rattle.std.proofs.lemmas.Bool.{and_parts, and_from, or_cases, or_left, or_right, not-true, eqb-true, eqb-false, eq-eqb, ne_eqb}
use Rattle.timefd_lint_files.specs.declared.class.ByteClass.{ByteClass}
use Rattle.timefd_lint_files.specs.declared.token.PatternToken.{PatternToken}
use Rattle.timefd_lint_files.specs.declared.token.PatternToken.TheVariants.{Byte, Any, OneOf, Star, Folders, Rest, Nothing}
use Rattle.timefd_lint_files.specs.Matching.{Text, slash, has, IsRow, Matches, MatchesFirst, matches, takes_none, takes_some}

not_slash : (byte : ℕ) → not (byte == slash) ≡ true → byte ≢ slash
not_slash byte e = eqb-false byte slash (not-true (byte == slash) e)

is_no_slash : (byte : ℕ) → byte ≢ slash → not (byte == slash) ≡ true
is_no_slash byte ne = ap not (ne_eqb byte slash ne)

-- what follows the first token, and its test
record After (test : Text → Bool) (Rest : Text → Type 0) : Type 0 where
  to : (path : Text) → test path ≡ true → Rest path
  from : (path : Text) → Rest path → test path ≡ true

byte_to : (own : ℕ) (test : Text → Bool) (B : Text → Type 0) → After test B → (path : Text)
    → (takes_some (Byte own) test path || false) ≡ true → MatchesFirst (Byte own) B path
byte_to own test B is [] h = absurd cc
byte_to own test B is (b ∷ bytes) h = elim (or_cases ((b == own) && test bytes) false h) [
  | inl both ↦ let parts = and_parts (b == own) (test bytes) both in
      (bytes, ap (λ (x : ℕ). x ∷ bytes) (eqb-true b own parts.0), is.to bytes parts.1)
  | inr none ↦ absurd cc
]

any_to : (test : Text → Bool) (B : Text → Type 0) → After test B → (path : Text)
    → (takes_some Any test path || false) ≡ true → MatchesFirst Any B path
any_to test B is [] h = absurd cc
any_to test B is (b ∷ bytes) h = elim (or_cases (not (b == slash) && test bytes) false h) [
  | inl both ↦ let parts = and_parts (not (b == slash)) (test bytes) both in
      (b, bytes, refl, not_slash b parts.0, is.to bytes parts.1)
  | inr none ↦ absurd cc
]

class_to : (class : ByteClass) (test : Text → Bool) (B : Text → Type 0) → After test B → (path : Text)
    → (takes_some (OneOf class) test path || false) ≡ true → MatchesFirst (OneOf class) B path
class_to class test B is [] h = absurd cc
class_to class test B is (b ∷ bytes) h =
    elim (or_cases ((not (b == slash) && has class b) && test bytes) false h) [
      | inl all ↦
          let parts = and_parts (not (b == slash) && has class b) (test bytes) all in
          let byte = and_parts (not (b == slash)) (has class b) parts.0 in
          (b, bytes, refl, not_slash b byte.0, byte.1, is.to bytes parts.1)
      | inr none ↦ absurd cc
    ]

star_to : (test : Text → Bool) (B : Text → Type 0) → After test B → (path : Text)
    → (takes_some Star test path || test path) ≡ true → MatchesFirst Star B path
star_to test B is [] h = ([], [], refl, tt, is.to [] h)
star_to test B is (b ∷ bytes) h =
    elim (or_cases (not (b == slash) && (takes_some Star test bytes || test bytes)) (test (b ∷ bytes)) h) [
      | inl both ↦
          let parts = and_parts (not (b == slash)) (takes_some Star test bytes || test bytes) both in
          let more = star_to test B is bytes parts.1 in
          (b ∷ more.0, more.1, ap (λ (t : Text). b ∷ t) more.2, (not_slash b parts.0, more.3), more.4)
      | inr here ↦ ([], b ∷ bytes, refl, tt, is.to (b ∷ bytes) here)
    ]

rest_to : (test : Text → Bool) (B : Text → Type 0) → After test B → (path : Text)
    → (takes_some Rest test path || test path) ≡ true → MatchesFirst Rest B path
rest_to test B is [] h = ([], [], refl, is.to [] h)
rest_to test B is (b ∷ bytes) h =
    elim (or_cases (takes_some Rest test bytes || test bytes) (test (b ∷ bytes)) h) [
      | inl goes_on ↦
          let more = rest_to test B is bytes goes_on in
          (b ∷ more.0, more.1, ap (λ (t : Text). b ∷ t) more.2, more.3)
      | inr here ↦ ([], b ∷ bytes, refl, is.to (b ∷ bytes) here)
    ]

some_folders : (test : Text → Bool) (B : Text → Type 0) → After test B → (path : Text)
    → takes_some Folders test path ≡ true
    → (front : Text) × (rest : Text) × (path ≡ front ++ slash ∷ rest) × B rest
some_folders test B is [] h = absurd cc
some_folders test B is (b ∷ bytes) h =
    elim (or_cases (takes_some Folders test bytes) ((b == slash) && test bytes) h) [
      | inl goes_on ↦
          let more = some_folders test B is bytes goes_on in
          (b ∷ more.0, more.1, ap (λ (t : Text). b ∷ t) more.2, more.3)
      | inr both ↦
          let parts = and_parts (b == slash) (test bytes) both in
          ([], bytes, ap (λ (x : ℕ). x ∷ bytes) (eqb-true b slash parts.0), is.to bytes parts.1)
    ]

folders_to : (test : Text → Bool) (B : Text → Type 0) → After test B → (path : Text)
    → (takes_some Folders test path || test path) ≡ true → MatchesFirst Folders B path
folders_to test B is path h = elim (or_cases (takes_some Folders test path) (test path) h) [
  | inl some ↦ inr (some_folders test B is path some)
  | inr here ↦ inl (is.to path here)
]

star_from : (test : Text → Bool) (B : Text → Type 0) → After test B → (front rest : Text)
    → AllByRecursion (λ byte. byte ≢ slash) front → B rest
    → (takes_some Star test (front ++ rest) || test (front ++ rest)) ≡ true
star_from test B is [] rest none here =
    or_right (takes_some Star test rest) (test rest) (is.from rest here)
star_from test B is (b ∷ front) rest none here =
    or_left _ _ (and_from (not (b == slash)) (takes_some Star test (front ++ rest) || test (front ++ rest))
    (is_no_slash b none.0) (star_from test B is front rest none.1 here))

rest_from : (test : Text → Bool) (B : Text → Type 0) → After test B → (front rest : Text) → B rest
    → (takes_some Rest test (front ++ rest) || test (front ++ rest)) ≡ true
rest_from test B is [] rest here =
    or_right (takes_some Rest test rest) (test rest) (is.from rest here)
rest_from test B is (b ∷ front) rest here = or_left _ _ (rest_from test B is front rest here)

folders_from : (test : Text → Bool) (B : Text → Type 0) → After test B → (front rest : Text) → B rest
    → takes_some Folders test (front ++ slash ∷ rest) ≡ true
folders_from test B is [] rest here =
    or_right (takes_some Folders test rest) (test rest) (is.from rest here)
folders_from test B is (b ∷ front) rest here = or_left _ _ (folders_from test B is front rest here)

first_to : (token : PatternToken) (test : Text → Bool) (B : Text → Type 0) → After test B → (path : Text)
    → (takes_some token test path || (takes_none token && test path)) ≡ true → MatchesFirst token B path
first_to (Byte own) test B is path h = byte_to own test B is path h
first_to Any test B is path h = any_to test B is path h
first_to (OneOf class) test B is path h = class_to class test B is path h
first_to Star test B is path h = star_to test B is path h
first_to Folders test B is path h = folders_to test B is path h
first_to Rest test B is path h = rest_to test B is path h
first_to Nothing test B is [] h = absurd cc
first_to Nothing test B is (b ∷ bytes) h = absurd cc

first_from : (token : PatternToken) (test : Text → Bool) (B : Text → Type 0) → After test B → (path : Text)
    → MatchesFirst token B path → (takes_some token test path || (takes_none token && test path)) ≡ true
first_from (Byte own) test B is path m =
    rw m.1 (or_left _ _ (and_from (own == own) (test m.0) (eq-eqb own own refl) (is.from m.0 m.2)))
first_from Any test B is path m =
    rw m.2 (or_left _ _ (and_from (not (m.0 == slash)) (test m.1) (is_no_slash m.0 m.3) (is.from m.1 m.4)))
first_from (OneOf class) test B is path m =
    rw m.2 (or_left _ _ (and_from (not (m.0 == slash) && has class m.0) (test m.1)
    (and_from (not (m.0 == slash)) (has class m.0) (is_no_slash m.0 m.3) m.4) (is.from m.1 m.5)))
first_from Star test B is path m = rw m.2 (star_from test B is m.0 m.1 m.3 m.4)
first_from Folders test B is path m = elim m [
  | inl here ↦ or_right (takes_some Folders test path) (test path) (is.from path here)
  | inr some ↦ or_left (takes_some Folders test path) (test path)
      (rw some.2 (folders_from test B is some.0 some.1 some.3))
]
first_from Rest test B is path m = rw m.2 (rest_from test B is m.0 m.1 m.3)
first_from Nothing test B is path m = absurd m

empty_to : (path : Text) → matches [] path ≡ true → path ≡ []
empty_to [] h = refl
empty_to (b ∷ bytes) h = absurd cc

all_after : (tokens : List PatternToken) → After (matches tokens) (Matches tokens)
all_after [] = record { to = empty_to; from = λ path e. rw e refl }
all_after (token ∷ tokens) = record {
  to = first_to token (matches tokens) (Matches tokens) (all_after tokens);
  from = first_from token (matches tokens) (Matches tokens) (all_after tokens);
}

pub decided : (tokens : List PatternToken) (path : Text) → IsTrue (matches tokens path) ↔ Matches tokens path
decided tokens path = let is = all_after tokens in (is.to path, is.from path)

-- an answer that equals the test's
pub as_decided : (answer : Bool) (tokens : List PatternToken) (path : Text) → answer ≡ matches tokens path
    → IsTrue answer ↔ Matches tokens path
as_decided answer tokens path is = rw is (decided tokens path)

-- the first position of a row
pub first_position : (tokens : List PatternToken) (path : Text) (row : List Bool) → IsRow tokens path row
    → get_or row 0 false ≡ matches tokens path
first_position tokens path row is = is.each 0 (omega arith)
