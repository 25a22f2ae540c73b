-- What is seen in a source, without the examples in its comments: its descriptions, and what can't be checked.
use Rattle.std.specs.Prelude.{ℕ, ◌≡◌, ◌⊎◌, Bool, true, false, not, ◌&&◌, ◌||◌, ◌==◌, if◌then◌else◌, List, [], ◌∷◌, codes, bytes_eq, length, Option, Some, None}
use Rattle.std.specs.List.{flat_map}
use Rattle.timefd_lint_scan.specs.declared.description.SourceDescription.{SourceDescription}
use Rattle.timefd_lint_scan.specs.declared.look.Look.{Look}
use Rattle.timefd_lint_scan.specs.declared.own_call.OwnCall.{OwnCall}
use Rattle.timefd_lint_scan.specs.declared.piece.PlacedToken.{PlacedToken}
use Rattle.timefd_lint_scan.specs.declared.uses.Use.{Use}
use Rattle.timefd_lint_scan.specs.Aliases.{aliases_in}
use Rattle.timefd_lint_scan.specs.Bytes.{Text}
use Rattle.timefd_lint_scan.specs.Candidates.{candidates, significant}
use Rattle.timefd_lint_scan.specs.Found.{AreDescribed}
use Rattle.timefd_lint_scan.specs.Marks.{unknown_marks}
use Rattle.timefd_lint_scan.specs.NamedCalls.{AreNamed}
use Rattle.timefd_lint_scan.specs.Names.{HasNoName}
use Rattle.timefd_lint_scan.specs.Sources.{AreTokens}
use Rattle.timefd_lint_scan.specs.Using.{uses_in}
use Rattle.timefd_lint_scan.specs.Words.{text_of}

-- A word is among these tokens.
abbrev pub has_word : Text → Text → List PlacedToken → Bool
has_word source word [] = false
has_word source word (p ∷ ps) = if bytes_eq (text_of source p) word then true else has_word source word ps

abbrev pub is_at : Option ℕ → ℕ → Bool
is_at None position = false
is_at (Some at) position = at == position

-- One of these descriptions is used by its name at a position.
abbrev pub is_taken : ℕ → List SourceDescription → Bool
is_taken position [] = false
is_taken position (d ∷ ds) = if is_at d.call position then true else is_taken position ds

-- These are the positions at which one of these descriptions is used by its name.
pub record AreTaken (ds : List SourceDescription) (taken : ℕ → Bool) : Type 0 where
  pub taken_at : (n : ℕ) → taken n ≡ is_taken n ds

-- A call is known to take a date format: by its own name, or because the source mentions chrono.
abbrev pub is_sure : Use → Bool → Bool
is_sure u has_chrono = not u.known.wants_percent || has_chrono

abbrev pub is_unread : (ℕ → Bool) → Bool → Use → Bool
is_unread named has_chrono u = is_at u.known.call u.name.start && is_sure u has_chrono && not (named u.name.start)

abbrev pub unread : (ℕ → Bool) → Bool → Use → List ℕ
unread named has_chrono u = if is_unread named has_chrono u then u.name.start ∷ [] else []

-- where names begin that calls take, but for those at these positions
abbrev pub unread_calls : (ℕ → Bool) → Bool → List Use → List ℕ
unread_calls named has_chrono us = flat_map (unread named has_chrono) us

-- These calls take names of texts that aren't looked at. A text is looked at if a description is used by its name at another call
-- (`lists`), or if a loop takes it from a list that is looked at for the variable of another loop (`named`).
pub record AreUnread (source : Text) (ps : List PlacedToken) (us : List Use) (ds : List SourceDescription) (has_chrono : Bool)
    (calls : List ℕ) : Type 0 where
  pub taken : ℕ → Bool
  pub by_descriptions : AreTaken ds taken
  pub lists : ℕ → Bool
  pub by_lists : AreNamed source ps us taken lists
  pub named : ℕ → Bool
  pub by_names : AreNamed source ps us lists named
  pub unread : calls ≡ unread_calls named has_chrono us

-- such names among the tokens of a source in which these descriptions are found
abbrev pub AreUnreadCalls : Text → List OwnCall → List PlacedToken → List SourceDescription → List ℕ → Type 0
AreUnreadCalls source own ps ds calls =
    AreUnread source ps (uses_in source ps (aliases_in source own ps) own) ds (has_word source (codes "chrono") ps) calls

-- What is seen in a source that is cut into these tokens, without the examples in its comments, with these calls of its project.
pub record IsSeen (source : Text) (own : List OwnCall) (all : List PlacedToken) (look : Look) : Type 0 where
  pub tokens : AreTokens (length source) source all
  pub descriptions : AreDescribed source 0 (candidates source own all) look.descriptions.items
  pub calls : AreUnreadCalls source own (significant all) look.descriptions.items look.calls.items
  pub comments : look.comments.items ≡ unknown_marks source all

-- Nothing is seen.
pub record IsBlank (look : Look) : Type 0 where
  pub descriptions : look.descriptions.items ≡ []
  pub calls : look.calls.items ≡ []
  pub comments : look.comments.items ≡ []

abbrev pub IsSeenAlone : Text → List OwnCall → Look → Type 0
IsSeenAlone source own look = (all : List PlacedToken) × IsSeen source own all look

-- The same. Nothing is seen in a source that has none of the names that descriptions come with.
abbrev pub IsLookAlone : Text → List OwnCall → Look → Type 0
IsLookAlone source own look = (HasNoName source own × IsBlank look) ⊎ IsSeenAlone source own look
