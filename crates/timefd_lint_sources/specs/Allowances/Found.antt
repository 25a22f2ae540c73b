-- All that the comments of a source allow.
use Rattle.std.specs.Prelude.{ℕ, ◌≡◌, ◌⊎◌, Bool, false, ◌&&◌, if◌then◌else◌, true, List, [], ◌∷◌, ◌++◌, bytes_eq, codes, length, nat_le, nat_lt}
use Rattle.timefd_lint_scan.specs.Bytes.{Text, line_feed}
use Rattle.timefd_lint_scan.specs.declared.piece.PlacedToken.{PlacedToken}
use Rattle.timefd_lint_scan.specs.Marks.{is_comment}
use Rattle.timefd_lint_scan.specs.Names.{Lacks}
use Rattle.timefd_lint_scan.specs.Sources.{AreTokens}
use Rattle.timefd_lint_sources.specs.declared.allowances.comment.Allowance.{Allowance}
use Rattle.timefd_lint_sources.specs.declared.allowances.comment.CommentSign.TheVariants.{Slashes}
use Rattle.timefd_lint_sources.specs.declared.reported.Finder.{Finder}
use Rattle.timefd_lint_sources.specs.declared.reported.Finder.TheVariants.{Rust, Keys}
use Rattle.timefd_lint_sources.specs.Allowances.Comments.{between, in_comment}
use Rattle.timefd_lint_sources.specs.Allowances.Keyed.{in_lines}

-- what a token of Rust allows, if it is a comment
abbrev pub in_token : Text → PlacedToken → List Allowance
in_token source p = if is_comment p.token then in_comment Slashes source p.start p.end else []

abbrev pub in_tokens : Text → List PlacedToken → List Allowance
in_tokens source [] = []
in_tokens source (p ∷ ps) = in_token source p ++ in_tokens source ps

-- In Rust the comments are tokens, so no text in a string is one.
abbrev pub AreByRust : Text → List Allowance → Type 0
AreByRust source found =
    (ps : List PlacedToken) × AreTokens (length source) source ps × (found ≡ in_tokens source ps)

-- In a file with keys each line may end with one.
abbrev pub AreBy : Finder → Text → List Allowance → Type 0
AreBy (Rust calls) source found = AreByRust source found
AreBy (Keys format names) source found = found ≡ in_lines format source line_feed source

-- Nothing is allowed in a source without `timefd:`.
abbrev pub AreAllowances : Finder → Text → List Allowance → Type 0
AreAllowances finder source found =
    (Lacks source (codes "timefd:") × (found ≡ [])) ⊎ AreBy finder source found

-- A position is one of those that a comment is about.
abbrev pub covers : Allowance → ℕ → Bool
covers a at = nat_le a.from at && nat_lt at a.to

-- A comment names this code.
abbrev pub names : Text → Allowance → Text → Bool
names source a code = bytes_eq (between source a.start a.end) code

abbrev pub allows_by : Text → ℕ → Text → Allowance → Bool
allows_by source at code a = covers a at && names source a code

-- A comment is about a position.
abbrev pub any_covers : List Allowance → ℕ → Bool
any_covers [] at = false
any_covers (a ∷ all) at = if covers a at then true else any_covers all at

-- A comment allows this code at a position.
abbrev pub any_allows : Text → List Allowance → ℕ → Text → Bool
any_allows source [] at code = false
any_allows source (a ∷ all) at code =
    if allows_by source at code a then true else any_allows source all at code
