-- What is noted about the tokens of a source, so that names are looked up.
use Rattle.std.specs.Prelude.{ℕ, ◌≡◌, ◌+◌, ◌*◌, ◌%◌, ◌^◌, ◌<◌, ◌≤◌, Bool, true, false, ◌||◌, if◌then◌else◌, List, [], ◌∷◌, codes, bytes_eq}
use Rattle.std.specs.Prelude.{drop, get_or, length, max}
use Rattle.std.specs.List.{All}
use Rattle.timefd_lint_scan.specs.declared.blocks.TokenPosition.{TokenPosition}
use Rattle.timefd_lint_scan.specs.declared.piece.PlacedToken.{PlacedToken}
use Rattle.timefd_lint_scan.specs.declared.repeated.Declaring.{Declaring}
use Rattle.timefd_lint_scan.specs.declared.repeated.Declaring.TheVariants.{Surely, Maybe}
use Rattle.timefd_lint_scan.specs.Aliases.{block_end}
use Rattle.timefd_lint_scan.specs.Bytes.{Text}
use Rattle.timefd_lint_scan.specs.Declarations.{has_type, is_assigned, is_declaring, is_in_pattern, most_tokens}
use Rattle.timefd_lint_scan.specs.Scopes.{is_outside}
use Rattle.timefd_lint_scan.specs.Words.{is_closing, is_opening, position_at, text_at, text_before, text_of, tokens_after}

abbrev pub with_byte : ℕ → ℕ → ℕ
with_byte n b = (n * 1099511628211 % 2 ^ 64 + b) % 2 ^ 64

abbrev pub fingerprint_from : ℕ → Text → ℕ
fingerprint_from n [] = n
fingerprint_from n (b ∷ bytes) = fingerprint_from (with_byte n b) bytes

-- a number for a text
abbrev pub fingerprint : Text → ℕ
fingerprint text = fingerprint_from 0 text

-- A name between `before` and `after` may be declared there, so that it is valid at some later position.
abbrev pub may_declare : Text → Text → List PlacedToken → Bool
may_declare source before after =
    is_declaring before || bytes_eq before (codes "|") || bytes_eq before (codes "ref") || has_type source after
    || is_in_pattern source most_tokens after || is_assigned source most_tokens after

abbrev pub declares : Text → Declaring → Text → List PlacedToken → Bool
declares source Surely before after = is_declaring before
declares source Maybe before after = may_declare source before after

abbrev pub declares_at : Text → Declaring → List PlacedToken → ℕ → Bool
declares_at source declaring ps i = declares source declaring (text_before source ps i 1) (tokens_after ps i)

-- Two of the first tokens that declare the same name are one, unless the name is among those that are repeated.
pub record AreRepeated (source : Text) (declaring : Declaring) (ps : List PlacedToken) (count : ℕ) (repeated : ℕ → Bool) : Type 0 where
  pub once : (i j : ℕ) → i < count → j < count → declares_at source declaring ps i ≡ true → declares_at source declaring ps j ≡ true
      → text_at source ps i ≡ text_at source ps j → repeated (fingerprint (text_at source ps i)) ≡ false → i ≡ j

-- The numbers of names that the first tokens declare, and those of repeated names.
pub record AreNoted (source : Text) (declaring : Declaring) (ps : List PlacedToken) (count : ℕ) (seen repeated : ℕ → Bool) : Type 0 where
  pub declared : (i : ℕ) → i < count → declares_at source declaring ps i ≡ true
      → seen (fingerprint (text_at source ps i)) ≡ true
  pub names : AreRepeated source declaring ps count repeated

abbrev pub but_first : List ℕ → List ℕ
but_first [] = []
but_first (n ∷ ns) = ns

-- where the brackets are that close blocks around a token, the next one first, by those of the token after it
abbrev pub closings_before : Text → PlacedToken → List ℕ → List ℕ
closings_before source p ns =
    if is_opening (text_of source p) then but_first ns
    else if is_closing (text_of source p) then p.start ∷ ns
    else ns

-- where the brackets are that close blocks around the first of these tokens, the next one first
abbrev pub closings : Text → List PlacedToken → List ℕ
closings source [] = []
closings source (p ∷ ps) = closings_before source p (closings source ps)

-- The block that a token is in ends at the position that is kept for it.
abbrev pub IsEnd : Text → List PlacedToken → TokenPosition → Type 0
IsEnd source ps kept = kept.position ≡ block_end source 0 (drop kept.token ps)

-- This is so of all that is kept.
abbrev pub AreEnds : Text → List PlacedToken → List TokenPosition → Type 0
AreEnds source ps ends = All (IsEnd source ps) ends

-- for each open bracket a position up to which it and those around it begin, the innermost one first, by those that were open at
-- the token before
abbrev pub opened : Text → PlacedToken → List ℕ → List ℕ
opened source p ns =
    if is_opening (text_of source p) then max p.start (get_or ns 0 0) ∷ ns
    else if is_closing (text_of source p) then but_first ns
    else ns

-- those after these tokens
abbrev pub openings : Text → List ℕ → List PlacedToken → List ℕ
openings source ns [] = ns
openings source ns (p ∷ ps) = openings source (opened source p ns) ps

-- After the position that is kept for a token, no bracket opens that is still open at the token.
abbrev pub IsBegin : Text → List PlacedToken → TokenPosition → Type 0
IsBegin source ps kept = (from : ℕ) → kept.position < from → is_outside source from (position_at ps kept.token) 0 ps ≡ true

-- This is so of all that is kept.
abbrev pub AreBegins : Text → List PlacedToken → List TokenPosition → Type 0
AreBegins source ps begins = All (IsBegin source ps) begins
