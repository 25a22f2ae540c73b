-- Names that are used instead of descriptions, and what their use says about the text that they denote.
use Rattle.std.specs.Prelude.{ℕ, ◌≡◌, ◌≤◌, ◌<◌, Bool, false, not, ◌&&◌, ◌||◌, nat_le, if◌then◌else◌, List, [], ◌∷◌, codes, bytes_eq, get_or}
use Rattle.std.specs.Prelude.{length, Option, Some, None}
use Rattle.timefd_lint_scan.specs.declared.piece.PlacedToken.{PlacedToken}
use Rattle.timefd_lint_scan.specs.declared.known.Known.{Known}
use Rattle.timefd_lint_scan.specs.declared.uses.Use.{Use}
use Rattle.timefd_lint_scan.specs.declared.uses.Way.{Way}
use Rattle.timefd_lint_scan.specs.declared.uses.Way.TheVariants.{Value, Call, Part}
use Rattle.timefd_lint_scan.specs.Aliases.{after_first}
use Rattle.timefd_lint_scan.specs.Bytes.{Text}
use Rattle.timefd_lint_scan.specs.Declarations.{is_declared_before, is_named}
use Rattle.timefd_lint_scan.specs.Scopes.{reaches, stays_open}
use Rattle.timefd_lint_scan.specs.Words.{position_at, text_at, text_before, text_of, tokens_after}

-- A block isn't closed before a position, and a name isn't declared again before it. At the first of these tokens, `depth` blocks inside
-- of it are open, and the word `before` precedes them.
abbrev pub stays_seen : Text → Text → ℕ → ℕ → Text → List PlacedToken → Bool
stays_seen source name position depth before ps =
    stays_open source position depth ps && not (is_declared_before source name position before ps)

-- A position is after the first of these tokens, in the block that they begin in, and the name isn't declared
-- again before it.
abbrev pub is_seen : Text → Text → List PlacedToken → ℕ → Bool
is_seen source name [] position = false
is_seen source name (p ∷ ps) position =
    nat_le p.start position && stays_open source position 0 (p ∷ ps)
    && not (is_declared_before source name position name (p ∷ ps))

-- No other item or variable of the source has the name.
abbrev pub is_only : Text → List PlacedToken → ℕ → Bool
is_only source ps declared =
    not (is_named source (text_at source ps declared) (position_at ps declared) [] ps)
    && not (is_named source (text_at source ps declared) (length source) (text_at source ps declared)
    (tokens_after ps declared))

-- A name used at a position is the one that a token declares: with `let` up to the end of its block, with
-- `for` in the loop's block, and otherwise in the block of its item, if no other item or variable has the
-- name.
abbrev pub is_meant : Text → List PlacedToken → ℕ → ℕ → Bool
is_meant source ps declared position =
    if bytes_eq (text_before source ps declared 1) (codes "let") then
    is_seen source (text_at source ps declared) (tokens_after ps declared) position
    else if bytes_eq (text_before source ps declared 1) (codes "for") then
    is_seen source (text_at source ps declared) (after_first source (codes "{") (tokens_after ps declared)) position
    else reaches source ps declared position && is_only source ps declared

-- The use fits the declaration: a function is called, and anything else isn't. A part of something never does.
abbrev pub is_alike : Way → Bool → Bool
is_alike Value is_function = not is_function
is_alike Call is_function = is_function
is_alike Part is_function = false

abbrev pub is_use_of : Text → List PlacedToken → ℕ → Use → Bool
is_use_of source ps declared u =
    bytes_eq (text_of source u.name) (text_at source ps declared)
    && is_alike u.way (bytes_eq (text_before source ps declared 1) (codes "fn"))
    && is_meant source ps declared u.name.start

abbrev pub first_start : List PlacedToken → ℕ
first_start [] = 0
first_start (p ∷ ps) = p.start

-- Before this position no use is of the name that a token declares with `let` or `for`.
abbrev pub first_seen : Text → List PlacedToken → ℕ → ℕ
first_seen source ps declared =
    if bytes_eq (text_before source ps declared 1) (codes "let") then first_start (tokens_after ps declared)
    else if bytes_eq (text_before source ps declared 1) (codes "for") then
    first_start (after_first source (codes "{") (tokens_after ps declared))
    else 0

-- A token declares a name with `let` or `for`.
abbrev pub declares_variable : Text → List PlacedToken → ℕ → Bool
declares_variable source ps declared =
    bytes_eq (text_before source ps declared 1) (codes "let") || bytes_eq (text_before source ps declared 1) (codes "for")

-- A use with the name that a token declares with `let` or `for`, after the declaration.
abbrev pub is_past : Text → List PlacedToken → ℕ → Use → Bool
is_past source ps declared u =
    declares_variable source ps declared && bytes_eq (text_of source u.name) (text_at source ps declared)
    && is_alike u.way (bytes_eq (text_before source ps declared 1) (codes "fn"))
    && nat_le (first_seen source ps declared) u.name.start

-- A name at a position or after it isn't the one that a token declares.
abbrev pub IsPast : Text → List PlacedToken → ℕ → ℕ → Type 0
IsPast source ps declared from = (position : ℕ) → from ≤ position → is_meant source ps declared position ≡ false

-- The uses at the front of the list, so many of them, aren't of the name that a token declares.
abbrev pub AreUnused : Text → List PlacedToken → ℕ → ℕ → List Use → Type 0
AreUnused source ps declared count us =
    (i : ℕ) → (d : Use) → i < count → i < length us → is_use_of source ps declared (get_or us i d) ≡ false

-- Of the uses from an index on, up to another, none is of the name that a token declares.
abbrev pub AreUnusedIn : Text → List PlacedToken → ℕ → ℕ → ℕ → List Use → Type 0
AreUnusedIn source ps declared from to us =
    (i : ℕ) → (d : Use) → from ≤ i → i < to → i < length us → is_use_of source ps declared (get_or us i d) ≡ false

-- No use after one in the list, up to an index, is before it in the source.
abbrev pub AreNotBefore : List Use → ℕ → ℕ → Type 0
AreNotBefore us index end =
    (k : ℕ) → (d : Use) → index < k → k < end → k < length us → (get_or us index d).name.start ≤ (get_or us k d).name.start

-- For each use from an index on, no use after it up to the index that is kept for it is before it in the source.
pub record AreRuns (us : List Use) (from : ℕ) (runs : List ℕ) : Type 0 where
  pub runs_at : (i : ℕ) → from ≤ i → AreNotBefore us i (get_or runs i 0)

-- The uses at the front of the list, so many of them, are before a position.
abbrev pub AreBefore : ℕ → ℕ → List Use → Type 0
AreBefore at count us = (i : ℕ) → (d : Use) → i < count → i < length us → (get_or us i d).name.start < at

-- None of the uses up to each index of this list is after the position there.
abbrev pub AreFurthest : List Use → List ℕ → Type 0
AreFurthest us furthest =
    (i k : ℕ) → (d : Use) → i ≤ k → k < length furthest → i < length us → (get_or us i d).name.start ≤ get_or furthest k 0

-- what the first use says about the name that a token declares
abbrev pub known_by_name : Text → List PlacedToken → ℕ → List Use → Option Known
known_by_name source ps declared [] = None
known_by_name source ps declared (u ∷ us) =
    if is_use_of source ps declared u then Some u.known
    else known_by_name source ps declared us

-- The use at an index is the first one that is of the name that a token declares.
pub record IsFirstUse (source : Text) (ps : List PlacedToken) (declared : ℕ) (us : List Use) (index : ℕ) : Type 0 where
  pub below : index < length us
  pub before : AreUnused source ps declared index us
  pub known : (d : Use) → known_by_name source ps declared us ≡ Some (get_or us index d).known
